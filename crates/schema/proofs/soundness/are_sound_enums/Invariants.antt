use Rattle.std.proofs.Common.{◌↔◌, drop}
use Rattle.std.specs.List.{AllByRecursion}
use Rattle.schema.specs.Soundness.{IsSoundEnum}
use Rattle.schema.proofs.soundness.are_sound_enums.Given as goal

abbrev pub invariant-loop-declared : goal.invariant-loop-declared
invariant-loop-declared l = AllByRecursion IsSoundEnum (drop l.declared-index l.declared-items) ↔ AllByRecursion IsSoundEnum l.declared-items
