-- Where a number stands in a list of numbers and slots, or would stand; the same of keys.
use Rattle.std.specs.Prelude.{◌==◌, ◌+◌, ℕ, List, [], ◌∷◌, Option, Some, None, Result, Ok, Err, option_map, if◌then◌else◌, nat_lt}
use Rattle.std.specs.Ordering.{is_eq, is_lt}
use Rattle.schema.specs.Pairs.{key_cmp}
use Rattle.schema.specs.declared.key.Key.{Key}
use Rattle.schema.specs.declared.value.Item.{Item}
use Rattle.schema.specs.declared.value.Slot.{Slot}

-- an index counted from one item further left
abbrev pub shifted : Result ℕ ℕ → Result ℕ ℕ
shifted (Ok i) = Ok (i + 1)
shifted (Err i) = Err (i + 1)

-- an index counted from `k` items further left
abbrev pub moved : ℕ → Result ℕ ℕ → Result ℕ ℕ
moved k (Ok i) = Ok (k + i)
moved k (Err i) = Err (k + i)

-- the index of a number, or that at which it belongs
abbrev pub search_in : List (ℕ × Slot) → ℕ → Result ℕ ℕ
search_in [] n = Err 0
search_in (e ∷ es) n = if nat_lt e.0 n then shifted (search_in es n) else (if e.0 == n then Ok 0 else Err 0)

-- the index of the first slot of a number
abbrev pub first_in : List (ℕ × Slot) → ℕ → Option ℕ
first_in [] n = None
first_in (e ∷ es) n = if e.0 == n then Some 0 else option_map (λ i. i + 1) (first_in es n)

-- the index of a key, or that at which it belongs
abbrev pub key_search_in : List (Key × Item) → Key → Result ℕ ℕ
key_search_in [] k = Err 0
key_search_in (e ∷ es) k = if is_lt (key_cmp e.0 k) then shifted (key_search_in es k) else (if is_eq (key_cmp e.0 k) then Ok 0 else Err 0)
