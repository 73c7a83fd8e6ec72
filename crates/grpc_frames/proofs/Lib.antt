-- What stands at the front of bytes, and a stream in parts: `laws::streams_go_on`, `Deframer::feed`.
pub mod FrontLemmas
pub mod SplitLemmas
-- One call: `Deframer::feed`, and a run of calls: `laws::pieces_change_nothing`.
pub mod FaultLemmas
pub mod FeedLemmas
pub mod PieceLemmas
-- What is put and read: `laws::framed_messages_are_read_back`, `laws::read_messages_were_framed` and
-- `laws::read_messages_are_within_the_limit`.
pub mod FramedLemmas
pub mod JoinedLemmas
pub mod LimitLemmas
-- Streams that are plain to see.
mod StandardFacts
