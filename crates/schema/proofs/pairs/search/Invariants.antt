use Rattle.std.proofs.Common.{◌≡◌, drop}
use Rattle.schema.specs.SlotSearch.{key_search_in, moved}
use Rattle.schema.proofs.pairs.search.Given as goal

abbrev pub invariant-loop-i : goal.invariant-loop-i
invariant-loop-i l = moved l.i (key_search_in (drop l.i l.entries) l.key) ≡ key_search_in l.entries l.key
