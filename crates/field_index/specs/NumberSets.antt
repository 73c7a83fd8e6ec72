-- The set of the numbers of a list.
use Rattle.std.specs.Prelude.{◌≡◌, ℕ, List}
use Rattle.std.specs.BTreeSet.{BTreeSet, contains}
use Rattle.std.specs.Ordering.{nat_cmp}
use Rattle.json_meanings.specs.PartialMessages.{has_number}

-- a set has the numbers of a list, and no others
abbrev pub IsSetOf : BTreeSet ℕ → List ℕ → Type 0
IsSetOf set ns = (n : ℕ) → contains nat_cmp set n ≡ has_number n ns
