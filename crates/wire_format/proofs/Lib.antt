-- What bytes decode to, and their first fault (`decode`, the law `decodes_without_fault`).
pub mod decoding
-- What is written, and how long it is (`encode`, `encoded_len`).
pub mod encoding
-- What is written is read (the laws `canonical_bytes_decode_to_their_value`, `sound_types_have_sound_fields`).
pub mod round_trip
-- What is decoded is valid (the clause `valid` of `decode`, the law `decoded_values_are_valid`).
pub mod validity
-- Bytes behind others are merged (the law `joined_bytes_merge`).
pub mod merging
