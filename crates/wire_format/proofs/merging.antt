-- Bytes behind others are merged (the law `joined_bytes_merge`).
pub mod KeptLemmas
pub mod FaultPlaceLemmas
pub mod MergeSlotLemmas
pub mod MergeMessageLemmas
pub mod MergedBytes
