-- Lemmas for every crate. Facts of each item of a list, of lists that begin with others, of bytes.
pub mod EachLemmas
pub mod EachImageLemmas
pub mod ExtendsLemmas
pub mod ByteLemmas
pub mod AreBytesLemmas
pub mod SliceLemmas
-- Numbers in groups of seven bits.
pub mod PowerLemmas
pub mod GroupLemmas
pub mod GroupSizeLemmas
-- Readers of pieces, from one call to a run.
pub mod PiecewiseLemmas
-- Texts, sets of texts and of numbers, and first items of short lists.
pub mod TextLemmas
pub mod NumberSetLemmas
pub mod FirstLemmas
