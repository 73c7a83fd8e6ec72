-- How the queue of messages is worked off, one message at a time.
use Rattle.std.specs.Prelude.{◌≡◌, ℕ, List, fold, slice_get}
use Rattle.std.specs.BTreeSet.{BTreeSet, contains}
use Rattle.std.specs.List.{list_any}
use Rattle.std.specs.Option.{option_map_or}
use Rattle.std.specs.Ordering.{nat_cmp}
use Rattle.descriptor_pool.specs.DeclaredTypes.{SetTypes}
use Rattle.descriptor_pool.specs.ReachableTypes.{Joined, is_of, next, with_joined}

-- a set has the messages of a queue
abbrev pub Sees : BTreeSet ℕ → List Joined → Type 0
Sees seen js = (i : ℕ) → contains nat_cmp seen i ≡ list_any (is_of i) js

-- a queue after the message at an index is taken, where there is one
abbrev pub taken_one : SetTypes → List Joined → ℕ → List Joined
taken_one types js at = option_map_or (λ j. fold with_joined js (next types j)) (slice_get js at) js
