-- What is written, and how long it is (`encode`, `encoded_len`).
pub mod ValidLemmas
pub mod SizeLemmas
