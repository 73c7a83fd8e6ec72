-- Laws of slots, which other crates cite.
pub mod Theorems
-- Where `set`, `get` and `clear` look, and what a write there gives.
pub mod SearchLemmas
-- The same of keys, and what the entries of a map have after a write.
pub mod KeySearchLemmas
pub mod ItemLemmas
-- Validity level by level.
pub mod LevelLemmas
-- Maps that answer alike are one.
pub mod SameItemLemmas
