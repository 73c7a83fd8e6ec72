use Rattle.std.proofs.Common.{ap}
use Rattle.schema.proofs.SameItemLemmas.{same_items}
use Rattle.schema.proofs.laws.pairs_are_their_items.Goals as goal

pub returns : goal.returns
returns c ps qs p r h = ap (λ es. record { entries = es }) (same_items ps.entries qs.entries p r h)
