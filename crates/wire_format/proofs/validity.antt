-- What is decoded is valid (the clause `valid` of `decode`, the law `decoded_values_are_valid`).
pub mod DecodedItemLemmas
pub mod DecodedOneofLemmas
pub mod CleanLemmas
pub mod DecodedIsValid
