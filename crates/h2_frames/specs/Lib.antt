-- What contracts of this crate cite.
pub mod Http2Codes
pub mod FrameHead
pub mod FrameErrors
pub mod Http2Frame
pub mod FrameWords
pub mod FrameReader
pub mod FrameSteps
pub mod FrameRuns
pub mod FrameVerdicts
pub mod FrameContent
pub mod FrameRules
pub mod FrameProgress
pub mod FrameOffsets
pub mod FramePositions
pub mod FrameExamples
