use Rattle.http1_answers.proofs.AnswerSizes.{answer_short}
use Rattle.http1_answers.proofs.laws.refusal_answers_are_short.Goals as goal

pub returns : goal.returns
returns c = λ r close allow h. answer_short r close allow h
