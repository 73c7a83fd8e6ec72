-- What stands at the front of bytes, and a list cut into frames: `laws::frames_are_read_back`.
pub mod FrontLemmas
pub mod CutLemmas
pub mod ReadsBack
-- What is judged stays with more bytes: `laws::faults_and_frames_stay`.
pub mod SteadyLemmas
pub mod GrowthLemmas
pub mod FaultLemmas
-- When a rule is decided: `laws::rules_are_decided`, `laws::rules_are_decided_at_once`.
pub mod DecidedLemmas
pub mod FilledLemmas
pub mod EarliestLemmas
pub mod BlockLemmas
pub mod SizeLemmas
-- The rules as the standard says them: `laws::rules_are_the_standards`, `laws::padding_is_judged_last`.
pub mod RuleLemmas
pub mod HeadLemmas
pub mod PaddingLemmas
pub mod KeptLemmas
-- One call, `FrameReader::feed`, and a run of calls: `laws::parts_are_frames`.
pub mod FedLemmas
pub mod CallLemmas
pub mod FreshLemmas
pub mod ProgressLemmas
pub mod RunLemmas
pub mod PositionLemmas
-- Content, and offsets: `laws::contents_lie_in_payloads`, `laws::frames_have_offsets`.
pub mod ContentLemmas
pub mod OffsetLemmas
pub mod NoFaultLemmas
-- `examples`.
pub mod ExampleFacts
-- Values of the standard's tables and examples.
mod StandardFacts
