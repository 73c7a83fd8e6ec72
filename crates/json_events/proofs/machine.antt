pub mod StepLemmas
pub mod CompletionLemmas
pub mod LevelLemmas
pub mod WithinLemmas
pub mod CountLemmas
pub mod PrefixLemmas
pub mod EndedLemmas
pub mod GivenLemmas
