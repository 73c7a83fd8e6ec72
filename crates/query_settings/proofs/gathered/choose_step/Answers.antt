use Rattle.query_settings.proofs.Choices.{step_put}
use Rattle.query_settings.proofs.gathered.choose_step.Goals as goal

pub returns-in_ok-insert : goal.returns-in_ok-insert
returns-in_ok-insert c =
    step_put c.args.members.now c.insert.new.self c.in_ok-place.place c.args.way.now c.args.step.number
    c.in-Some.oneof c.args.step.oneof c.in-Some.is c.in_ok-place.ensures c.in_ok-insert.ensures.updates
