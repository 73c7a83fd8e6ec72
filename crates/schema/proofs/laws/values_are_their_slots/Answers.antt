use Rattle.std.proofs.Common.{ap}
use Rattle.schema.proofs.LevelLemmas.{valid_rises}
use Rattle.schema.proofs.Theorems.{same_slots}
use Rattle.schema.proofs.laws.values_are_their_slots.Goals as goal

pub returns-clause-rising : goal.returns-clause-rising
returns-clause-rising c v w p q h = ap (λ es. record { fields = es }) (same_slots v.fields w.fields 0 p q h)

pub returns-clause-valid : goal.returns-clause-valid
returns-clause-valid c types id v w p q h =
    ap (λ es. record { fields = es }) (same_slots v.fields w.fields 0 (valid_rises 100 types id v p) (valid_rises 100 types id w q) h)
