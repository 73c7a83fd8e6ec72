pub use Rattle.linked_api.specs.FieldPaths
pub use Rattle.linked_api.specs.LinkedApi
pub use Rattle.set_faults.specs.LinkFaults
pub mod BindingFaults
pub mod FieldIndexes
pub mod LinkedBinding
pub mod RuleBindings
pub mod RuleExamples
