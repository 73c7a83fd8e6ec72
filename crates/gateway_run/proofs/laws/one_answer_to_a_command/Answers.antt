use Rattle.gateway_run.proofs.AnswerLemmas.{apart, one_output, one_refusal}
use Rattle.gateway_run.proofs.laws.one_answer_to_a_command.Goals as goal

pub returns : goal.returns
returns c =
    let one = c.one_api_is_declared.ensures.one in
    let linked = c.one_api_is_declared.ensures.linked in
    let means = c.one_transcoding.ensures in
    record {
      apart = apart one linked means;
      one_cause = one_refusal one linked means;
      one_output = one_output one linked means c.one_text_of_routes.ensures.one;
    }
