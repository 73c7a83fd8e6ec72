use Rattle.std.proofs.Common.{◌≡◌, ◌+◌, drop}
use Rattle.std.specs.Prelude.{option_map}
use Rattle.schema.specs.SlotSearch.{first_in}
use Rattle.schema.proofs.value.position_of.Given as goal

abbrev pub invariant-loop-i : goal.invariant-loop-i
invariant-loop-i l = option_map (λ k. l.i + k) (first_in (drop l.i l.fields) l.number) ≡ first_in l.fields l.number
