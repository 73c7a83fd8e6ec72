use Rattle.std.proofs.Common.{◌↔◌, drop}
use Rattle.std.specs.List.{AllByRecursion}
use Rattle.schema.specs.Soundness.{IsSoundMessage}
use Rattle.schema.proofs.soundness.are_sound_messages.Given as goal

abbrev pub invariant-loop-message : goal.invariant-loop-message
invariant-loop-message l = AllByRecursion (IsSoundMessage l.types) (drop l.message-index l.message-items) ↔ AllByRecursion (IsSoundMessage l.types) l.message-items
