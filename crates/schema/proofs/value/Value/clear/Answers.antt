use Rattle.std.proofs.Common.{ap, sym, subst, ◌∙◌}
use Rattle.schema.specs.Value.{slot_in, RiseFrom}
use Rattle.schema.proofs.Theorems.{slot_in_without_other, slot_in_without_same, RiseFrom-without_slot}
use Rattle.schema.proofs.value.Value.clear.Goals as goal

pub returns-clause-others : goal.returns-clause-others
returns-clause-others c q d = ap (λ es. slot_in es q) c.remove.ensures.fields ∙ slot_in_without_other _ _ _ d

pub returns-clause-gone : goal.returns-clause-gone
returns-clause-gone c h = ap (λ es. slot_in es c.args.number) c.remove.ensures.fields ∙ slot_in_without_same _ 0 _ h

pub returns-clause-rising : goal.returns-clause-rising
returns-clause-rising c h = subst (RiseFrom 0) (sym c.remove.ensures.fields) (RiseFrom-without_slot _ 0 _ h)
