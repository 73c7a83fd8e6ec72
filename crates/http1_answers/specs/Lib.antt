pub mod AnswerLines
pub mod RefusalAnswers
pub mod AnswerExamples
