use Rattle.json_integers.proofs.AnswerLemmas.{one_answer}
use Rattle.json_integers.proofs.ExactLemmas.{each_answer}
use Rattle.json_integers.proofs.laws.one_answer_of_a_text.Goals as goal

pub returns : goal.returns
returns c = record { some = each_answer; one = one_answer c.texts_mean_one_value.ensures.numbers }
