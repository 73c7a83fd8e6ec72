-- The tokens of a tree.
pub mod TokenLemmas
-- Reading tokens one after another comes to what trees mean.
pub mod TurnLemmas
-- Before the last token of a tree no value has ended.
pub mod InsideLemmas
-- First faults are where the turns stop (`readings_hold`).
pub mod FaultLemmas
-- Numbers are read as the integers that they denote (`numbers_are_read_exactly`).
pub mod NumberLemmas
-- The first tokens of a tree stay the same whatever follows it.
pub mod FrontLemmas
-- The brackets of tokens that are taken (`brackets_nest_within_a_limit`).
pub mod NestingLemmas
-- Tokens that some bytes spell, and trees that have a text.
pub mod WordLemmas
-- Some tree is accepted behind each key.
pub mod ReadyLemmas
-- The tokens before a fault begin an accepted value (`faults_are_at_the_first_token`).
pub mod FirstLemmas
pub mod PlaceLemmas
-- What is decoded of a text is what it spells (`spelled_bytes_are_computed`).
pub mod DecodedLemmas
pub mod SpelledLemmas
-- A field that is put into a message.
pub mod PutLemmas
-- What is read of a token is a value of its kind.
pub mod ScalarItemLemmas
-- The field of a key, and that of a wrapper.
pub mod FieldLemmas
-- What fills a field is valid in its message.
pub mod FilledLemmas
-- What a token is at a spot is valid there.
pub mod TokenValidLemmas
-- What is read at a spot is valid there.
pub mod SpotValidLemmas
-- A value that is read of a tree is valid (`read_values_are_valid`), and the strings of a text's tree are UTF-8.
pub mod TreeValidLemmas
pub mod Utf8Lemmas
-- Types that are written by their fields alone (`types_by_fields_have_no_texts`).
pub mod TextTypeLemmas
-- What the texts of well-known types mean is valid (`readings_of_types_give_valid_values`).
pub mod KnownReadingLemmas
