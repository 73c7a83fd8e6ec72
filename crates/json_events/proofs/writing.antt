pub mod EscapedLemmas
pub mod SpellingLemmas
pub mod DecimalLemmas
