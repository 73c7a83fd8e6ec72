pub mod LevelLemmas
pub mod ListedTypes
pub mod WholeSets
-- What is read of each listed field is what it holds.
pub mod PatternReads
pub mod ListedReads
