-- The lines of the bindings of a linked API: there is one text of them.
pub mod ListingLemmas
