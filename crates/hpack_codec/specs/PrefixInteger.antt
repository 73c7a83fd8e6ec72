-- Integers of a prefix of N bits (RFC 7541, section 5.1). `ones` is 2 ^ N - 1, the prefix with every bit set.
use Rattle.std.specs.Prelude.{◌+◌, ◌-◌, ◌%◌, ◌^◌, ℕ, List, [], ◌∷◌, if◌then◌else◌, nat_lt, Option, Some, None}
use Rattle.std.specs.Option.{option_and_then}
use Rattle.std.specs.Result.{result_ok}
use Rattle.base.specs.Base128.{groups_in, groups_of}

-- a number of at most 4,294,967,295, and how many bytes it takes
abbrev pub within_32_bits : ℕ → ℕ → Option (ℕ × ℕ)
within_32_bits n len = if nat_lt n (2 ^ 32) then Some (n, len) else None

-- the integer whose groups, five of them at most, stand behind a prefix with every bit set
abbrev pub integer_behind : ℕ → List ℕ → Option (ℕ × ℕ)
integer_behind ones bytes = option_and_then (λ (r : ℕ × ℕ). within_32_bits (ones + r.0) (r.1 + 1)) (result_ok (groups_in 5 bytes))

-- the integer at the front, and how many bytes it takes
abbrev pub integer_in : ℕ → List ℕ → Option (ℕ × ℕ)
integer_in ones [] = None
integer_in ones (b ∷ bs) = if nat_lt (b % (ones + 1)) ones then Some (b % (ones + 1), 1) else integer_behind ones bs

-- a number of 64 bits behind the bits `pattern`, which share the first byte
abbrev pub integer_bytes : ℕ → ℕ → ℕ → List ℕ
integer_bytes pattern ones n = if nat_lt n ones then (pattern + n) ∷ [] else (pattern + ones) ∷ groups_of 10 (n - ones)
