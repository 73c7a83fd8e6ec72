pub use Rattle.json_meanings.specs.EnumNames
pub use Rattle.json_meanings.specs.PartialMessages
pub use Rattle.message_types.specs.Types
pub mod FieldMaps
pub mod EnumMaps
pub mod NumberSets
pub mod TypeIndexes
