-- The numbers of digits that may be to come.
use Rattle.std.proofs.Common.{◌≡◌, ℕ, zero, suc, ◌+◌, ◌*◌, ◌<◌, ◌≤◌, ◌⊎◌, Bool, true, false, cond, [], None, ap, inl, inr, ⊎_elim, refl, arith}
use Rattle.std.specs.Char.{digit_value, IsScalar}
use Rattle.std.proofs.lemmas.Bool.{and_parts, leb-true, ltb-true}
use Rattle.std.proofs.lemmas.Bool.Decides.{nat_tests}
use Rattle.json_events.specs.JsonStrings.{is_high_surrogate}
use Rattle.json_events.specs.StringSteps.{is_hex, is_low_front, hex_to, low_to, hex_adds, low_adds, more_hex, more_low, more_string}
use Rattle.std.specs.Prelude.{option_map}
use Rattle.json_events.specs.declared.state.StringState.{StringState}
use Rattle.json_events.specs.declared.state.WordState.TheVariants.{Inside}
use Rattle.json_events.specs.WordSteps.{more_state}
use Rattle.json_events.specs.WordStates.{IsUnitFront, IsLowFront}
use Rattle.json_events.proofs.strings.Utf8Bytes.{in_scalar}

-- no other number of digits may be to come
pub other_unit : (k v b : ℕ) → IsUnitFront k v → (k ≡ 1 → ⊥) → (k ≡ 2 → ⊥) → (k ≡ 3 → ⊥) → (k ≡ 4 → ⊥) → None ≡ more_hex k v b
other_unit zero v b h x y z w = absurd h
other_unit (suc zero) v b h x y z w = absurd (x refl)
other_unit (suc (suc zero)) v b h x y z w = absurd (y refl)
other_unit (suc (suc (suc zero))) v b h x y z w = absurd (z refl)
other_unit (suc (suc (suc (suc zero)))) v b h x y z w = absurd (w refl)
other_unit (suc (suc (suc (suc (suc n))))) v b h x y z w = absurd h

-- the same in the second half
pub other_low : (high k v b : ℕ) → IsLowFront k v → (k ≡ 1 → ⊥) → (k ≡ 2 → ⊥) → (k ≡ 3 → ⊥) → (k ≡ 4 → ⊥) → None ≡ more_low high k v b
other_low high zero v b h x y z w = absurd h
other_low high (suc zero) v b h x y z w = absurd (x refl)
other_low high (suc (suc zero)) v b h x y z w = absurd (y refl)
other_low high (suc (suc (suc zero))) v b h x y z w = absurd (z refl)
other_low high (suc (suc (suc (suc zero)))) v b h x y z w = absurd (w refl)
other_low high (suc (suc (suc (suc (suc n))))) v b h x y z w = absurd h

-- two digits are a small number
pub low_front_small : (v : ℕ) → is_low_front v ≡ true → v < 4096
low_front_small v h =
    below (leb-true v 223 (and_parts _ _ h).1)
  where
    below : v ≤ 223 → v < 4096
    below x = omega (arith, x)

low_part : (u : ℕ) → u < 56320 → is_high_surrogate u ≡ false → IsScalar u
low_part u x y = let z : u < 55296 = grind (arith, nat_tests) in in_scalar u (inl z)

-- four digits that are no half of a pair are a character
pub unit_is_scalar : (v b : ℕ) → IsUnitFront 1 v → is_hex b ≡ true → is_high_surrogate (v * 16 + digit_value b) ≡ false → IsScalar (v * 16 + digit_value b)
unit_is_scalar v b h d e = by_digit v (digit_value b) h.0 h.1 (ltb-true (digit_value b) 16 d) e
  where
    by_digit : (v n : ℕ) → v < 4096 → (v < 3520) ⊎ (3584 ≤ v) → n < 16 → is_high_surrogate (v * 16 + n) ≡ false → IsScalar (v * 16 + n)
    by_digit v n h k l e = ⊎_elim
        (λ (x : v < 3520). below x)
        (λ (x : 3584 ≤ v). in_scalar (v * 16 + n) (inr (omega (arith, x), omega (arith, h, l))))
        k
      where
        below : v < 3520 → IsScalar (v * 16 + n)
        below x = let small : v * 16 + n < 56320 = omega (arith, x, l) in low_part (v * 16 + n) small e

-- a digit that is needed
pub needed_digit : (v b : ℕ) → (more_hex 1 v b ≡ None → ⊥) → is_hex b ≡ true
needed_digit v b h = by_test (is_hex b) refl
  where
    by_test : (t : Bool) → is_hex b ≡ t → is_hex b ≡ true
    by_test true e = e
    by_test false e = absurd (h (ap (λ (t : Bool). cond t (hex_to 0 (v * 16 + digit_value b)) None) e))

-- a digit of the second half that is needed
pub needed_low : (k v b : ℕ) → (more_low k 1 v b ≡ None → ⊥) → is_hex b ≡ true
needed_low k v b h = by_test (is_hex b) refl
  where
    by_test : (t : Bool) → is_hex b ≡ t → is_hex b ≡ true
    by_test true e = e
    by_test false e = absurd (h (ap (λ (t : Bool). cond t (low_to k 0 (v * 16 + digit_value b)) None) e))

-- a digit that is not the last adds nothing
pub other_digit : (k v b : ℕ) → (k ≡ 1 → ⊥) → hex_adds k v b ≡ []
other_digit zero v b n = refl
other_digit (suc zero) v b n = absurd (n refl)
other_digit (suc (suc k)) v b n = refl

-- the same in the second half
pub other_low_digit : (h k v b : ℕ) → (k ≡ 1 → ⊥) → low_adds h k v b ≡ []
other_low_digit h zero v b n = refl
other_low_digit h (suc zero) v b n = absurd (n refl)
other_low_digit h (suc (suc k)) v b n = refl

-- the bounds of a first half
pub high_ends : (h : ℕ) → is_high_surrogate h ≡ true → (55296 ≤ h) × (h ≤ 56319)
high_ends h e = let p = and_parts _ _ e in (leb-true 55296 h p.0, leb-true h 56319 p.1)

-- a string that goes on
pub inside_goes_on : (s : StringState) (b : ℕ) → (more_state (Inside s) b ≡ None → ⊥) → more_string s b ≡ None → ⊥
inside_goes_on s b h e = h (ap (option_map Inside) e)
