-- The first of the pieces between separators, and the parameters among pieces (`first_piece`, `Parameters::next`).
pub mod Splits
-- What stands before a `+` is decoded by itself (`decoded`).
pub mod Spaces
