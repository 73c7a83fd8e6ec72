use Rattle.std.proofs.Common.{◌≡◌, ◌≤◌, ◌-◌, IfSome, length, take}
use Rattle.gate_world.specs.ToldFiles.{IsMissing, told_file}
use Rattle.gateway_run.proofs.set_loading.read_whole.Given as goal

abbrev pub invariant-loop-piece : goal.invariant-loop-piece
invariant-loop-piece g l = record {
  later : g.F.Files.faults l.initial.files ≤ g.F.Files.faults l.files;
  same : g.F.Files.contents l.files ≡ g.F.Files.contents l.initial.files;
  front : IfSome (told_file (g.F.Files.contents l.initial.files) l.path) (λ file. l.bytes.items ≡ take (length l.bytes.items) file);
  missing : IsMissing (g.F.Files.contents l.initial.files) l.path → length l.bytes.items ≡ 0;
  within : length l.bytes.items ≤ 16777217;
}

abbrev pub decreases-loop-piece : goal.decreases-loop-piece
decreases-loop-piece g l = 16777217 - length l.bytes.items
