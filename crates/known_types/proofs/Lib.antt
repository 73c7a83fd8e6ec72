-- BytesLemmas: encodings with and without padding, for `read_standard` and the laws. SymbolLemmas: which bytes are
-- written. TimeSlots, MomentLemmas, PathSlots: messages of times and of masks, and what is found in them. KnownLemmas:
-- the laws of what is read and written. PlainLemmas: which bytes are written. BytesExampleFacts,
-- KnownExampleFacts: the examples.
mod BytesExampleFacts
mod BytesLemmas
mod KnownExampleFacts
mod KnownLemmas
mod MomentLemmas
mod PathSlots
mod PlainLemmas
mod SymbolLemmas
mod TimeSlots
