-- Paths of names, the numbers of their fields, and what is found along them.
pub mod StepLemmas
pub mod PathLemmas
-- What a linked API gives of its bindings.
pub mod BindingLemmas
-- The small API of the examples.
pub mod SmallApiFacts
