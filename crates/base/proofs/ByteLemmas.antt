-- Lists whose numbers are bytes, by each item and by index.
use Rattle.std.proofs.Common.{◌<◌, ℕ, zero, suc, List, [], ◌∷◌, take, drop, arith}
use Rattle.std.specs.List.{AllByRecursion}
use Rattle.base.specs.Bytes.{AreBytes}

-- each of a list is a byte
abbrev pub AllBytes : List ℕ → Type 0
AllBytes bs = AllByRecursion (λ (b : ℕ). b < 256) bs

-- the bytes behind the first are bytes
pub bytes_drop : (n : ℕ) (bs : List ℕ) → AllBytes bs → AllBytes (drop n bs)
bytes_drop zero bs h = h
bytes_drop (suc n) [] h = tt
bytes_drop (suc n) (b ∷ bs) h = bytes_drop n bs h.1

-- the first bytes are bytes
pub bytes_take : (n : ℕ) (bs : List ℕ) → AllBytes bs → AllBytes (take n bs)
bytes_take zero bs h = tt
bytes_take (suc n) [] h = tt
bytes_take (suc n) (b ∷ bs) h = (h.0, bytes_take n bs h.1)

-- numbers that are bytes at each index are bytes
pub bytes_all : (bs : List ℕ) → AreBytes bs → AllBytes bs
bytes_all [] h = tt
bytes_all (b ∷ bs) h = (h 0, bytes_all bs (λ i. h (suc i)))

-- bytes are bytes at each index
pub each_byte : (bs : List ℕ) → AllBytes bs → AreBytes bs
each_byte [] h zero = omega arith
each_byte [] h (suc i) = omega arith
each_byte (b ∷ bs) h zero = h.0
each_byte (b ∷ bs) h (suc i) = each_byte bs h.1 i
