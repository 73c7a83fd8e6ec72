pub mod WordLemmas
pub mod WordRuns
pub mod MarkLemmas
pub mod TokenLemmas
pub mod TokenRuns
pub mod TreeLemmas
pub mod OrderLemmas
