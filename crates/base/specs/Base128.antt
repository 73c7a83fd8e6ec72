-- Numbers in groups of seven bits, the least first: a byte of 128 and more says that another follows.
use Rattle.std.specs.Prelude.{◌+◌, ◌*◌, ◌-◌, ◌/◌, ◌%◌, ℕ, zero, suc, List, [], ◌∷◌, if◌then◌else◌, nat_lt, Result, Ok, Err}
use Rattle.base.specs.declared.base128.GroupFault.{GroupFault}
use Rattle.base.specs.declared.base128.GroupFault.TheVariants.{Short, Long}

-- a group that is not the last, before what the others are
abbrev pub before_groups : ℕ → Result (ℕ × ℕ) GroupFault → Result (ℕ × ℕ) GroupFault
before_groups b (Err e) = Err e
before_groups b (Ok r) = Ok (b - 128 + 128 * r.0, r.1 + 1)

-- the number of the groups at the front, and how many bytes they take, `k` at most
abbrev pub groups_in : ℕ → List ℕ → Result (ℕ × ℕ) GroupFault
groups_in zero bytes = Err Long
groups_in (suc k) [] = Err Short
groups_in (suc k) (b ∷ bs) = if nat_lt b 128 then Ok (b, 1) else before_groups b (groups_in k bs)

-- a number in the fewest groups, `k` of them at most
unfoldable pub groups_of : ℕ → ℕ → List ℕ
groups_of zero n = []
groups_of (suc k) n = if nat_lt n 128 then n ∷ [] else (n % 128 + 128) ∷ groups_of k (n / 128)
