use Rattle.std.proofs.Common.{sym, ap, ◌∙◌}
use Rattle.json_events.specs.declared.state.Want.{Want}
use Rattle.json_events.specs.NestingSteps.{next_in}
use Rattle.json_events.proofs.nesting.turn.Goals as goal

pub returns-in-FirstItem : goal.returns-in-FirstItem
returns-in-FirstItem c = λ st _. c.first_item.ensures st ∙ ap (λ (w : Want). next_in w st c.args.kind) (sym c.in-FirstItem.is)
