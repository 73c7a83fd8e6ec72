use Rattle.std.proofs.Common.{◌≡◌, length}
use Rattle.linked_api.specs.NumberPaths.{last_field}
use Rattle.field_binding.proofs.targets.last_field.Given as goal

abbrev pub invariant-loop-number : goal.invariant-loop-number
invariant-loop-number l = last_field l.types l.inner l.left ≡ last_field l.types l.fn.id l.numbers

abbrev pub decreases-loop-number : goal.decreases-loop-number
decreases-loop-number l = length l.left
