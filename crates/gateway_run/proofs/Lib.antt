-- The laws: a set declares one API and has one fault, and a command has one answer.
pub mod AnswerLemmas
-- What a command says of a file of whose bytes it read the front, and of its input.
pub mod OutputLemmas
pub mod FrontLemmas
pub mod InputLemmas
-- The lines on standard error.
pub mod LineLemmas
-- Each command has an output or a refusal (`each_command_is_answered`).
pub mod EachCommand
