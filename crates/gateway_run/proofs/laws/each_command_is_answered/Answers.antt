use Rattle.gateway_run.proofs.EachCommand.{each_command, each_declared}
use Rattle.gateway_run.proofs.laws.each_command_is_answered.Goals as goal

pub returns : goal.returns
returns c = record {
  declared = each_declared c.faultless_sets_have_one_api.ensures.there;
  answered =
      each_command c.one_api_is_declared.ensures.linked c.each_request_is_answered.ensures
      c.one_text_of_routes.ensures.some;
}
