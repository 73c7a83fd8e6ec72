use Rattle.std.proofs.Common.{◌≡◌, ◌||◌, ℕ, drop}
use Rattle.std.specs.BTreeSet.{contains}
use Rattle.std.specs.Ordering.{nat_cmp}
use Rattle.linked_types.specs.LinkedTypes.{is_real}
use Rattle.linked_types.proofs.real_oneofs.real_set.Given as goal

abbrev pub invariant-loop-field : goal.invariant-loop-field
invariant-loop-field l = (i : ℕ) → (contains nat_cmp l.reals i || is_real (drop l.field-index l.fields) i) ≡ is_real l.fields i
