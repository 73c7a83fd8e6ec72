-- The integers of number kinds, which other crates cite.
pub mod Theorems
-- What is found of a text is what the definitions say, and a text has one reading (`read_scalar`,
-- `one_reading_of_a_text`, `items_and_faults_are_apart`).
pub mod ReadingLemmas
-- A text is read as a key exactly as it is by itself (`keys_are_read_as_texts`).
mod KeyLemmas
-- Each text means an item, or there is something wrong with it (`every_text_is_read`).
pub mod EachReading
-- UTF-8 and base64 are bytes (`every_text_is_read`, `keys_are_read_as_texts`).
mod TextBytes
