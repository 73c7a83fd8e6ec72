-- Fields and slots found by their numbers.
pub mod FoundFields
pub mod FoundSlots
-- One field that is set.
pub mod SetFields
-- Settings along paths.
pub mod SetPaths
-- Laws of settings.
pub mod OneSetting
-- The orders of the examples.
pub mod ExampleFacts
-- The book of the examples.
pub mod LevelFacts
