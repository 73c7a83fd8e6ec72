pub use Rattle.json_meanings.specs.TextMeanings
pub use Rattle.json_meanings.specs.KnownReadings
pub mod WholeMessages
pub mod FrontFaults
pub mod BodySteps
pub mod BodyExamples
