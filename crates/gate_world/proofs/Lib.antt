-- What a piece adds, of bytes that are read from memory and of those that `write_all` writes: PieceLemmas; what a
-- policy picks: PolicyLemmas.
pub mod PieceLemmas
pub mod PolicyLemmas
-- A head that takes one more field: `Head::field`.
mod HeadLemmas
