-- Maps of indexes.
pub mod IndexLemmas
-- Lists in which each item has a value.
pub mod EachSomeLemmas
-- The parts of what is linked.
pub mod LinkedParts
-- The numbers of real oneofs.
pub mod OneofNumbers
-- Ids find names.
pub mod NamedTypes
pub mod ReachedIds
-- What is linkable is linked.
pub mod OwnTypes
pub mod ScalarTypes
pub mod LinkableLinked
-- What is linked is sound: its fields, its numbers and keys, the fields of well-known types.
pub mod SoundFields
pub mod SoundKeys
pub mod KnownFields
pub mod SoundTypes
-- The names of what is linked are apart.
pub mod ApartNames
