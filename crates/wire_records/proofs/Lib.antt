-- A group is read record by record.
pub mod SkipLemmas
pub mod RestLemmas
-- All records are collected.
pub mod RecordListLemmas
-- A reader tells the first of the records that are left, and where it lies.
pub mod ReaderLemmas
