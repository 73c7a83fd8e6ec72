use Rattle.std.proofs.Common.{◌≡◌, drop}
use Rattle.std.specs.List.{list_any}
use Rattle.linked_types.specs.LinkedTypes.{makes_real}
use Rattle.linked_types.proofs.real_oneofs.is_real.Given as goal

abbrev pub invariant-loop-field : goal.invariant-loop-field
invariant-loop-field l = list_any (makes_real l.index) (drop l.field-index l.fields) ≡ list_any (makes_real l.index) l.fields
