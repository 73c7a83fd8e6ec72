-- What is read of a text by itself is what a token with it means (`Builder`).
pub mod TokenLemmas
-- What a builder keeps is what the turns over its tokens come to (`Builder`).
pub mod BuilderLemmas
-- The entries of a map that is open, in a map by the order of keys (`Builder`).
pub mod EntryLemmas
