use Rattle.std.proofs.Common.{arith, subst}
use Rattle.std.proofs.lemmas.List.{drop_all, drop_more}
use Rattle.query_settings.proofs.Choices.{Chooses, all_chosen, chosen_on}
use Rattle.query_settings.proofs.gathered.choose.Goals as goal

pub loop-step-preserved : goal.loop-step-preserved
loop-step-preserved c =
    chosen_on c.args.steps.now c.loop-step.step-index _
    (drop_more c.args.steps.now c.loop-step.step-index _ c.loop-step-test.true) c.loop-step.way.items
    c.as_slice.result.now c.push.new.self.items c.as_slice.ensures.value c.in_ok-push.ensures.items c.args.members.now
    c.loop-step.members c.choose_step.new.members c.loop-step.invariant c.in_ok-choose_step.ensures

pub returns : goal.returns
returns c =
    all_chosen c.args.members.now c.loop-step.members c.loop-step.way.items c.args.steps.now
    (subst (Chooses c.args.members.now c.loop-step.members c.loop-step.way.items c.args.steps.now)
    (drop_all c.loop-step.step-index c.args.steps.now (omega (arith, c.loop-step-test.false))) c.loop-step.invariant)
