-- What is read of the variables of a binding, and what is bound.
pub mod ReadingLemmas
-- The message of a request.
pub mod MessageLemmas
-- Laws.
pub mod UniqueLemmas
pub mod OverlayLemmas
-- Worked examples.
pub mod ExampleFacts
-- Each path is bound or refused (`each_path_is_bound`).
pub mod EachBinding
