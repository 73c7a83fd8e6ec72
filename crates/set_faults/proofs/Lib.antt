-- The first of the faults that stand one after another, and where there is none.
pub mod Theorems
-- Counts of distinct texts; names, numbers and keys that came before.
pub mod CountLemmas
pub mod NameLemmas
pub mod FieldLemmas
-- Templates of rules.
pub mod TemplateLemmas
-- Names are apart where none came before.
pub mod LawfulNames
-- Sets without faults are lawful.
pub mod LawfulMethods
pub mod LawfulFields
pub mod ApartFields
pub mod LawfulMessages
pub mod LawfulSetLemmas
-- And lawful sets have no faults.
pub mod NoFaultLemmas
pub mod FaultlessMethods
pub mod FaultlessMessages
pub mod FaultlessSets
-- Worked examples, computed.
pub mod StandardFacts
