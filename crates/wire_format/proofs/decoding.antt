-- What bytes decode to, and their first fault (`decode`, the law `decodes_without_fault`).
pub mod FaultLemmas
pub mod GoodLemmas
pub mod CollectLemmas
pub mod ItemLemmas
pub mod EntryLemmas
pub mod OneofLemmas
pub mod MeaningLemmas
