use Rattle.std.proofs.Common.{◌-◌, ◌≤◌, length, take}
use Rattle.gate_world.specs.Sinks.{Gains}
use Rattle.gate_world.proofs.writing.write_all.Given as goal

abbrev pub invariant-loop-done : goal.invariant-loop-done
invariant-loop-done g l = record {
  later : g.O.Sink.faults l.initial.out ≤ g.O.Sink.faults l.out;
  within : l.done ≤ length l.bytes;
  told : Gains (g.O.Sink.written l.initial.out) (g.O.Sink.written l.out) (take l.done l.bytes);
}

abbrev pub decreases-loop-done : goal.decreases-loop-done
decreases-loop-done g l = length l.bytes - l.done
