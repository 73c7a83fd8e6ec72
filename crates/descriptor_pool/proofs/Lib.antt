-- JSON names; what messages declare; maps and sets of names.
pub mod CamelLemmas
pub mod DeclaredLemmas
pub mod NameLemmas
pub mod TextSetLemmas
pub mod Theorems
pub mod TypeCountLemmas
-- The laws of what is reached: whole, closed, and the least.
pub mod QueueLemmas
pub mod QueueLaws
pub mod ReachedLaws
pub mod ReasonLaws
