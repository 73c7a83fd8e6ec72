use Rattle.std.proofs.Common.{◌≡◌, drop}
use Rattle.schema.specs.SlotSearch.{search_in, moved}
use Rattle.schema.proofs.value.search.Given as goal

abbrev pub invariant-loop-i : goal.invariant-loop-i
invariant-loop-i l = moved l.i (search_in (drop l.i l.fields) l.number) ≡ search_in l.fields l.number
