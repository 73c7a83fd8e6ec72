use Rattle.std.proofs.Common.{◌≡◌, drop}
use Rattle.gate_world.specs.FixedOutside.{file_in}
use Rattle.gate_world.proofs.in_memory.fixed_files.file_at.Given as goal

abbrev pub invariant-loop-file : goal.invariant-loop-file
invariant-loop-file l = file_in (drop l.file-index l.files) l.path ≡ file_in l.files l.path
