pub use Rattle.field_settings.specs.AppliedSettings
pub use Rattle.scalar_texts.specs.ScalarTexts
pub mod Assignments
pub mod PathSettings
pub mod ValueFaults
pub mod PathReadings
pub mod RequestMessages
pub mod BindingExamples
