use Rattle.transcoding.proofs.AnswerLemmas.{one_answer}
use Rattle.transcoding.proofs.CallLemmas.{parsed}
use Rattle.transcoding.proofs.laws.one_transcoding.Goals as goal

pub returns : goal.returns
returns c api method target body r s linked =
    one_answer c.one_path_of_a_target.ensures c.one_choice.ensures c.one_path_binding.ensures c.one_request_message.ensures
    api method target body (parsed api linked) r s
