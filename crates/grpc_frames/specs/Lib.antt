pub mod LengthPrefixed
pub mod Deframer
pub mod FeedAnswers
pub mod DeframerSteps
pub mod DeframerRuns
pub mod FrameFaultTexts
