use Rattle.std.proofs.Common.{◌∙◌, rules}
use Rattle.std.proofs.lemmas.List.{drop_more}
use Rattle.query_settings.proofs.Choices.{other_kept}
use Rattle.query_settings.proofs.gathered.chooses_other.Goals as goal

pub loop-step-preserved : goal.loop-step-preserved
loop-step-preserved c chosen members =
    other_kept c.args.steps.now c.loop-step.step-index _
    (drop_more c.args.steps.now c.loop-step.step-index _ c.loop-step-test.true) c.loop-step.way.items
    c.as_slice.result.now c.push.new.self.items c.as_slice.ensures.value c.in_ok-push.ensures.items chosen
    c.in_ok-step_chooses_other.field-0 (c.in_ok-step_chooses_other.ensures chosen members) c.if-branch.false
    ∙ c.loop-step.invariant chosen members
