-- The calculation on digits and its cap.
pub mod DigitLemmas
-- A text is cut into the parts of a number in one way.
pub mod CutLemmas
-- Digits that are dropped and zeros that are added give the magnitude.
pub mod MagnitudeLemmas
-- The answer for each text is the one that the definitions give it, and one only (`one_answer_of_a_text`).
pub mod AnswerLemmas
-- The integer that is computed of a text is the one that it denotes (`integers_are_computed`).
pub mod ExactLemmas
