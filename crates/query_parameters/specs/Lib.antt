pub use Rattle.form_urlencoded.specs.Form
pub mod QueryParameters
pub mod ParameterParts
pub mod ParameterExamples
