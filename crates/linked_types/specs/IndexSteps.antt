-- Maps from the indexes that messages and enums have in a set to those that they have in what is linked.
use Rattle.std.specs.Prelude.{◌≡◌, ℕ, List, nat_eq}
use Rattle.std.specs.BTreeMap.{BTreeMap, get}
use Rattle.std.specs.BTreeSet.{BTreeSet, contains}
use Rattle.std.specs.List.{list_any}
use Rattle.std.specs.Ordering.{nat_cmp}
use Rattle.linked_types.specs.LinkedTypes.{index_from}

-- a set has the indexes of a list
abbrev pub HasIndexes : BTreeSet ℕ → List ℕ → Type 0
HasIndexes set is = (i : ℕ) → contains nat_cmp set i ≡ list_any (nat_eq i) is

-- a map tells where each index stands in a list
abbrev pub IsIndexOf : BTreeMap ℕ ℕ → List ℕ → Type 0
IsIndexOf m is = (i : ℕ) → get nat_cmp m i ≡ index_from 0 is i
