pub use Rattle.known_types.specs.BytesTexts
pub use Rattle.json_meanings.specs.EnumNames
pub use Rattle.json_meanings.specs.JsonScalars
pub mod ScalarTexts
pub mod ScalarExamples
pub mod ScalarMeanings
pub mod KeyTexts
