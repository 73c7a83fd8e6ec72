pub mod NumberLemmas
pub mod NumberWords
