-- CamelBytes: single bytes of paths. PathLemmas: paths read and written again. PieceLemmas: the first piece of a text.
-- ReadingLemmas: what is read piece by piece. JoinedLemmas: texts and their pieces. MaskLemmas: the laws.
-- PrintableLemmas: which paths can be written. ShownMasks: what is appended.
mod CamelBytes
mod PathLemmas
mod PieceLemmas
mod ReadingLemmas
mod JoinedLemmas
mod MaskLemmas
mod PrintableLemmas
mod ShownMasks
