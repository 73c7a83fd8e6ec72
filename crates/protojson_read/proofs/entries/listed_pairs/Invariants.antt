use Rattle.std.proofs.Common.{◌≡◌, ◌++◌}
use Rattle.protojson_read.proofs.entries.listed_pairs.Given as goal

abbrev pub invariant-loop-entry : goal.invariant-loop-entry
invariant-loop-entry l = l.list ++ l.entry-iterator ≡ l.initial.entry-iterator
