-- The texts of refusals are ASCII, and so UTF-8: `put_refusal`.
mod RefusalTexts
-- How many bytes an answer has: `laws::refusal_answers_are_short`.
mod AnswerSizes
-- Which refusals are answered with a text: `put_refusal`.
mod ToldAnswers
