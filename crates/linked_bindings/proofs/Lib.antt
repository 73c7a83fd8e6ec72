-- Fields by their names and by their places.
pub mod NameLookup
-- The faults of paths one after another, and of a rule.
pub mod PathFaults
pub mod FaultlessRules
-- The numbers of paths, and what is linked of a rule without a fault.
pub mod LeadingNumbers
pub mod LinkedRules
-- Rules that fit the types of their method.
pub mod FittingRules
-- The worked examples.
pub mod RuleFacts
