use Rattle.std.proofs.Common.{◌≡◌, ◌≤◌}
use Rattle.linked_types.specs.LinkedTypes.{real_before}
use Rattle.linked_types.proofs.real_oneofs.searched_number.Given as goal

abbrev pub invariant-loop-at : goal.invariant-loop-at
invariant-loop-at l = record {
  counted : l.count ≡ real_before l.fields l.at;
  within : l.count ≤ l.at;
}
