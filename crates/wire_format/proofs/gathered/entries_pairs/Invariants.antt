use Rattle.std.proofs.Common.{◌≡◌, ◌++◌}
use Rattle.wire_format.proofs.gathered.entries_pairs.Given as goal

abbrev pub invariant-loop-entry : goal.invariant-loop-entry
invariant-loop-entry l = l.list ++ l.entry-iterator ≡ l.initial.entry-iterator
