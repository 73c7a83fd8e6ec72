use Rattle.std.proofs.Common.{◌≤◌, ◌-◌, length}
use Rattle.gateway_run.proofs.InputLemmas.{Splits}
use Rattle.gateway_run.proofs.input_reading.read_input.Given as goal

abbrev pub invariant-loop-piece : goal.invariant-loop-piece
invariant-loop-piece g l = record {
  later : g.I.Source.faults l.initial.input ≤ g.I.Source.faults l.input;
  splits : Splits (g.I.Source.left l.initial.input) (g.I.Source.left l.input) l.bytes.items;
  within : length l.bytes.items ≤ 1048577;
}

abbrev pub decreases-loop-piece : goal.decreases-loop-piece
decreases-loop-piece g l = 1048577 - length l.bytes.items
