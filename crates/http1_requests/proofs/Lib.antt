-- Heads, trailer sections and chunk size lines as httparse's grammar prints them:
-- `laws::heads_are_those_of_the_grammar`, `laws::sections_are_those_of_the_grammar`,
-- `laws::chunk_lines_are_those_of_the_grammar`.
mod GrammarLaw
mod SectionLaw
mod ChunkLaw
-- What is cut off, and where the parts of the grammar end: `laws::parts_stay`,
-- `laws::parts_end_where_the_grammar_ends`.
mod PartEndLemmas
mod CutLaw
-- What stays as more comes: `laws::requests_stay`.
mod GrowLemmas
mod CutLemmas
mod BodyLemmas
mod RequestLemmas
-- Chunks, one after another: `laws::chunks_follow_one_another`.
mod ChunkedLaw
-- Where a client stops: `laws::client_ends_are_told`.
mod ClientEndLemmas
-- Lines and fields, and what heads are served and refused for: `laws::field_lines_are_counted`,
-- `laws::heads_are_refused_in_order`, `laws::served_heads_are_read`.
pub mod Theorems
mod LineLemmas
mod CauseLemmas
mod BoundLemmas
-- The body that a head tells of: `laws::body_lengths_are_told`.
mod BodyLengthLaw
-- The head at the front: `laws::requests_begin_with_their_heads`.
mod FirstRequestLemmas
-- The tables of `examples`.
mod OnExamples
mod TextFacts
