use Rattle.std.proofs.Common.{◌≡◌, ◌≤◌, length}
use Rattle.linked_types.specs.LinkedTypes.{real_before}
use Rattle.linked_types.specs.RealNumbers.{AreRealNumbers}
use Rattle.linked_types.proofs.real_oneofs.real_numbers.Given as goal

abbrev pub invariant-loop-at : goal.invariant-loop-at
invariant-loop-at l = record {
  counted : l.count ≡ real_before l.fields l.at-counter;
  within : l.count ≤ l.at-counter;
  numbers : AreRealNumbers l.fields l.numbers.items;
  len : length l.numbers.items ≡ l.at-counter;
}
