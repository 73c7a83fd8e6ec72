-- Lengths as far as 64 bits tell.
use Rattle.std.proofs.Common.{◌≡◌, ◌≢◌, ◌+◌, ◌-◌, ◌^◌, ◌<◌, ◌≤◌, ◌++◌, ℕ, List, [], drop, length, arith, ap, sym, ◌∙◌, length-append, length-drop}
use Rattle.std.specs.Prelude.{min}
use Rattle.std.proofs.lemmas.List.{nil_from_length}
use Rattle.base.specs.Saturated.{saturated}
use Rattle.wire_format.specs.Sizes.{size_of}

-- a sum is known from its parts, as far as they are
pub capped_sum : (a b : ℕ) → min (saturated a + saturated b) (2 ^ 64 - 1) ≡ saturated (a + b)
capped_sum a b = omega arith

-- the size of joined bytes is the sum of both, as far as 64 bits tell
pub size_append : (a b : List ℕ) → size_of (a ++ b) ≡ min (size_of a + size_of b) (2 ^ 64 - 1)
size_append a b = ap saturated (length-append a b) ∙ sym (capped_sum (length a) (length b))

-- the size of fewer than 2 ^ 64 bytes is their number
pub small_size : (bytes : List ℕ) → length bytes < 2 ^ 64 → length bytes ≡ size_of bytes
small_size bytes h = omega arith

-- the length of bytes that was not cut off
pub size_is : (bytes : List ℕ) (len : ℕ) → len ≢ 2 ^ 64 - 1 → len ≡ size_of bytes → len ≡ length bytes
size_is bytes len n h = omega (arith, n, h)

-- one part more of a running sum
pub size_step : (t : ℕ) (a b : List ℕ) → saturated (min (t + size_of a) (2 ^ 64 - 1) + length b) ≡ saturated (t + length (a ++ b))
size_step t a b = omega (arith, length-append a b)

-- adding nothing to a number of 64 bits changes nothing
pub size_done : (t : ℕ) → t < 2 ^ 64 → saturated (t + 0) ≡ t
size_done t h = omega arith

-- an entry of three parts
pub size_three : (a b c : List ℕ) (x y z : ℕ) → x ≡ size_of a → y ≡ size_of b → z ≡ size_of c → min (x + min (y + z) (2 ^ 64 - 1)) (2 ^ 64 - 1) ≡ size_of (a ++ (b ++ c))
size_three a b c x y z p q r = omega (arith, p, q, r, length-append a (b ++ c), length-append b c)

-- a running sum at the end of a list
pub size_end : {A : Type 0} (f : List A → List ℕ) (t i : ℕ) (xs : List A) → length xs ≤ i → f [] ≡ [] → t < 2 ^ 64 → saturated (t + length (f (drop i xs))) ≡ size_of (f xs) → t ≡ size_of (f xs)
size_end f t i xs le none small told =
    let gone : drop i xs ≡ [] = nil_from_length (drop i xs) (omega (arith, length-drop i xs)) in
    sym (size_done t small) ∙ ap (λ (bs : List ℕ). saturated (t + length bs)) (sym (ap f gone ∙ none)) ∙ told
