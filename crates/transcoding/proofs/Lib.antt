-- A binding calls one method, and where there is one its index lies within (`transcode`, `one_transcoding`).
pub mod CallLemmas
-- A request has one answer, but for out of memory (`one_transcoding`).
pub mod AnswerLemmas
-- Whether a request is of a form that is built can be told (`each_request_is_answered`).
pub mod DecidedForms
-- Each request has an answer that is not out of memory (`each_request_is_answered`).
pub mod EachAnswer
-- The first cause counts (`first_cause_counts`).
pub mod FirstCause
