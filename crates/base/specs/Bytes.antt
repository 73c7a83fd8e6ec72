-- Numbers that are bytes.
use Rattle.std.specs.Prelude.{◌<◌, ℕ, List, slice_index_or}

-- each number of a list is a byte
abbrev pub AreBytes : List ℕ → Type 0
AreBytes bytes = (i : ℕ) → slice_index_or bytes i 0 < 256
