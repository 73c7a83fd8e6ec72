use Rattle.std.proofs.Common.{◌≡◌, drop}
use Rattle.schema.specs.Pairs.{item_at}
use Rattle.schema.proofs.value.Pairs.get.Given as goal

abbrev pub invariant-loop-k : goal.invariant-loop-k
invariant-loop-k l = item_at (drop l.k-index l.k-items) l.key ≡ item_at l.k-items l.key
