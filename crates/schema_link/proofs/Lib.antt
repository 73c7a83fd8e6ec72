-- Messages that are lawful are linkable.
pub mod LawfulEnums
pub mod EntryKeys
pub mod LawfulTypes
-- Lists that are given item by item.
pub mod GivenItems
-- The rules of methods and their bindings.
pub mod RuleLemmas
pub mod BoundRules
pub mod RouteLemmas
pub mod ParsedRules
-- What is linked of a set is there, is one, and is linked.
pub mod ApartNames
pub mod LinkedSets
pub mod SetLemmas
pub mod ReadySets
pub mod SetAnswers
