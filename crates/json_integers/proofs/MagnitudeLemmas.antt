-- The calculation without powers of ten gives the magnitude that the definition wants.
use Rattle.std.proofs.Common.{◌≡◌, ℕ, zero, suc, ◌+◌, ◌-◌, ◌*◌, ◌^◌, ◌<◌, ◌≤◌, min, Bool, true, false, cond, ◌||◌, eqb, leb, List, [], ◌∷◌, ◌++◌, length, take, drop, Option, Some, None, ⊎_elim, refl, sym, ap, ap₂, subst, ◌∙◌, arith, lit<, append-nil, append_assoc, length-append, length-drop, take-append-drop}
use Rattle.std.specs.Prelude.{ℤ, pos, neg_ℤ}
use Rattle.std.specs.Str.Parse.{AllDigits, digits_value, starts_with_minus, without_leading_sign}
use Rattle.std.proofs.Math.Nat.{pow-le-pow_right, eq_of_mul-eq-mul_right}
use Rattle.std.proofs.lemmas.Bool.{cases_lt}
use Rattle.std.proofs.lemmas.Nat.{pow-add, same_from_place}
use Rattle.std.proofs.lemmas.Int.Digits.{digits_value-lt}
use Rattle.json_events.specs.JsonNumbers.{NumberParts, AreNumberParts, significand, fraction_digits, multiplier, divisor, exponent_value}
use Rattle.json_integers.specs.NumberCut.{sign_len}
use Rattle.json_integers.specs.WholeNumbers.{capped, exponent_size, is_negative, places_of, kept, dropped, are_zeros, magnitude_of}
use Rattle.json_integers.specs.declared.places.Places.TheVariants.{Added, Dropped}
use Rattle.json_integers.proofs.CutLemmas.{int_digits, fraction_digits_are}
use Rattle.json_integers.proofs.DigitLemmas.{one_power, append_digits, dropped_digits, value_append, zeros_value, value_zeros}
use Rattle.std.proofs.lemmas.Bool.Decides.{nat_tests}

-- the size of an exponent, of whatever size
abbrev pub size_of : List ℕ → ℕ
size_of [] = 0
size_of (e ∷ power) = digits_value 10 (drop (sign_len power) power)

exponent_size_is : (s : List ℕ) → exponent_size s ≡ capped (size_of s)
exponent_size_is [] = refl
exponent_size_is (e ∷ power) = refl

same_sign : (s : List ℕ) → drop (sign_len s) s ≡ without_leading_sign s
same_sign [] = refl
same_sign (b ∷ s) = choice (eqb b 43) (eqb b 45)
  where
    choice : (x y : Bool) → drop (cond (x || y) 1 0) (b ∷ s) ≡ cond y (drop 1 (b ∷ s)) (drop (cond x 1 0) (b ∷ s))
    choice true true = refl
    choice true false = refl
    choice false true = refl
    choice false false = refl

-- an exponent multiplies by a power of ten, or divides by one
record IsScale (negative : Bool) (n : ℕ) (z : ℤ) : Type 0 where
  pub multiplier_is : multiplier z ≡ cond negative 1 (10 ^ n)
  pub divisor_is : divisor z ≡ cond negative (10 ^ n) 1

scale_of : (t : Bool) (n : ℕ) → IsScale t n (cond t (neg_ℤ (pos n)) (pos n))
scale_of true zero = record { multiplier_is = refl; divisor_is = refl }
scale_of true (suc n) = record { multiplier_is = refl; divisor_is = refl }
scale_of false n = record { multiplier_is = refl; divisor_is = refl }

exponent_scale : (s : List ℕ) → IsScale (is_negative s) (size_of s) (exponent_value s)
exponent_scale [] = record { multiplier_is = refl; divisor_is = refl }
exponent_scale (e ∷ power) =
    let negative = starts_with_minus power in
    subst (λ (ds : List ℕ). IsScale negative (digits_value 10 ds) (exponent_value (e ∷ power))) (sym (same_sign power))
    (scale_of negative (digits_value 10 (without_leading_sign power)))

-- digits that are dropped weigh as much as the count says, even where there are fewer
kept_scale : (ks ds : List ℕ) (l : ℕ) → length ds ≡ min l (length (ks ++ ds))
    → digits_value 10 ks * 10 ^ length ds ≡ digits_value 10 ks * 10 ^ l
kept_scale [] ds l h = omega arith
kept_scale (k ∷ ks) ds l h =
    let n : length ((k ∷ ks) ++ ds) ≡ length (k ∷ ks) + length ds = length-append (k ∷ ks) ds in
    let e : length ds ≡ l = omega arith in
    ap (λ n. digits_value 10 (k ∷ ks) * 10 ^ n) e

drop_sound : (ks ds : List ℕ) (l : ℕ) → length ds ≡ min l (length (ks ++ ds)) → digits_value 10 ds ≡ 0
    → digits_value 10 (ks ++ ds) ≡ digits_value 10 ks * 10 ^ l
drop_sound ks ds l h z = omega (arith, value_append ks ds, kept_scale ks ds l h)

drop_complete : (ks ds : List ℕ) (l m : ℕ) → length ds ≡ min l (length (ks ++ ds)) → AllDigits 10 ds
    → digits_value 10 (ks ++ ds) ≡ m * 10 ^ l → digits_value 10 ds ≡ 0
drop_complete ks ds l m h d e =
    let small : digits_value 10 ds < 10 ^ length ds = digits_value-lt 10 ds d in
    let below : length ds ≤ l = omega arith in
    let low : digits_value 10 ds < 10 ^ l = omega (arith, pow-le-pow_right {n = 10} (lit< tt) below) in
    let f : digits_value 10 ks * 10 ^ l + digits_value 10 ds ≡ m * 10 ^ l + 0 = omega
    (arith, value_append ks ds, kept_scale ks ds l h) in
    (same_from_place (digits_value 10 ks) (digits_value 10 ds) m 0 (10 ^ l) low (omega (arith, one_power l)) f).1

module _ (int ds : List ℕ) (n : ℕ) where
  abbrev ks : List ℕ
  ks = kept int (n - length ds) ++ kept ds n

  abbrev zs : List ℕ
  zs = dropped int (n - length ds) ++ dropped ds n

  -- what is kept and what is dropped are all digits
  all_digits : ks ++ zs ≡ int ++ ds
  all_digits = ⊎_elim
      (λ a.
      let e : n - length ds ≡ 0 = omega arith in
      let x : kept int (n - length ds) ≡ int = ap (kept int) e ∙ whole int in
      let y : dropped int (n - length ds) ≡ [] = ap (dropped int) e ∙ nothing int in
      ap₂ (λ u v. (u ++ kept ds n) ++ (v ++ dropped ds n)) x y ∙ append_assoc int (kept ds n) (dropped ds n)
      ∙ ap (λ u. int ++ u) (take-append-drop (length ds - n) ds))
      (λ b.
      let e : length ds - n ≡ 0 = omega arith in
      let x : kept ds n ≡ [] = ap (λ k. take k ds) e in
      let y : dropped ds n ≡ ds = ap (λ k. drop k ds) e in
      let i = length int - (n - length ds) in
      ap₂ (λ u v. (take i int ++ u) ++ (drop i int ++ v)) x y
      ∙ ap (λ u. u ++ (drop i int ++ ds)) (append-nil (take i int))
      ∙ sym (append_assoc (take i int) (drop i int) ds) ∙ ap (λ u. u ++ ds) (take-append-drop i int))
      (cases_lt n (length ds))
    where
      whole : (s : List ℕ) → take (length s - 0) s ≡ s
      whole [] = refl
      whole (b ∷ s) = let e : length (b ∷ s) - 0 ≡ suc (length s - 0) = omega arith in ap (λ k. take k (b ∷ s)) e
          ∙ ap (λ x. b ∷ x) (whole s)

      nothing : (s : List ℕ) → drop (length s - 0) s ≡ []
      nothing [] = refl
      nothing (b ∷ s) = let e : length (b ∷ s) - 0 ≡ suc (length s - 0) = omega arith in ap (λ k. drop k (b ∷ s)) e
          ∙ nothing s

  -- so many digits are dropped, or all
  count_dropped : length zs ≡ min n (length (ks ++ zs))
  count_dropped = omega (
    arith,
    ap length all_digits,
    length-append int ds,
    length-append (dropped int (n - length ds)) (dropped ds n),
    length-drop (length int - (n - length ds)) int,
    length-drop (length ds - n) ds,
  )

-- a magnitude, where digits are to be multiplied by a power of ten or divided by one, so many of them behind the point
abbrev pub IsScaled : Bool → ℕ → ℕ → ℕ → ℕ → Type 0
IsScaled negative n v f m = v * cond negative 1 (10 ^ n) ≡ m * (10 ^ f * cond negative (10 ^ n) 1)

-- what was found of the magnitudes: one, up to the cap, or that there is none
abbrev pub Finds : (ℕ → Type 0) → Option ℕ → Type 0
Finds P None = (m : ℕ) → P m → ⊥
Finds P (Some x) = (m : ℕ) × P m × (x ≡ capped m)

finds_by : (P Q : ℕ → Type 0) (o : Option ℕ) → ((m : ℕ) → P m → Q m) → ((m : ℕ) → Q m → P m) → Finds P o → Finds Q o
finds_by P Q None f g h = λ m q. h m (g m q)
finds_by P Q (Some x) f g h = (h.0, f h.0 h.1, h.2)

found_by_dropping : (all left zeros : List ℕ) (l : ℕ) → left ++ zeros ≡ all → length zeros ≡ min l (length all)
    → AllDigits 10 zeros
    → (t : Bool) → are_zeros zeros ≡ t
    → Finds (λ m. digits_value 10 all ≡ m * 10 ^ l) (cond t (Some (capped (digits_value 10 left))) None)
found_by_dropping all left zeros l w c d true z =
    let n : length zeros ≡ min l (length (left ++ zeros)) = c ∙ ap (λ (s : List ℕ). min l (length s)) (sym w) in
    (digits_value 10 left, ap (digits_value 10) (sym w) ∙ drop_sound left zeros l n (zeros_value zeros z), refl)
found_by_dropping all left zeros l w c d false z =
    let n : length zeros ≡ min l (length (left ++ zeros)) = c ∙ ap (λ (s : List ℕ). min l (length s)) (sym w) in
    λ m q. let y : are_zeros zeros ≡ true = value_zeros zeros d
    (drop_complete left zeros l m n d (ap (digits_value 10) w ∙ q)) in absurd (cc)

-- digits are dropped: so many as are to be, or all where there are not more
down : (int ds : List ℕ) (l n : ℕ) → AllDigits 10 int → AllDigits 10 ds
    → min n (length (int ++ ds)) ≡ min l (length (int ++ ds))
    → Finds (λ m. digits_value 10 (int ++ ds) ≡ m * 10 ^ l) (magnitude_of int ds (Dropped n))
down int ds l n hi hd e =
    let w = all_digits int ds n in
    let c : length (zs int ds n) ≡ min l (length (int ++ ds)) = count_dropped int ds n
    ∙ ap (λ (s : List ℕ). min n (length s)) w ∙ e in
    found_by_dropping (int ++ ds) (ks int ds n) (zs int ds n) l w c
    (append_digits (dropped int (n - length ds)) (dropped ds n) (dropped_digits int (n - length ds) hi)
    (dropped_digits ds n hd))
    (are_zeros (zs int ds n)) refl

-- past the cap, it is the same how many zeros are added
past_cap : (v y z : ℕ) → 20 ≤ y → 20 ≤ z → capped (v * 10 ^ y) ≡ capped (v * 10 ^ z)
past_cap zero y z h k = omega arith
past_cap (suc v) y z h k =
    let a : 10 ^ 20 ≤ 10 ^ y = pow-le-pow_right {n = 10} (lit< tt) h in
    let b : 10 ^ 20 ≤ 10 ^ z = pow-le-pow_right {n = 10} (lit< tt) k in
    many v (10 ^ y) (10 ^ z) a b
  where
    many : (v a b : ℕ) → 10 ^ 20 ≤ a → 10 ^ 20 ≤ b → capped (suc v * a) ≡ capped (suc v * b)
    many v a b h k = omega arith

up : (v n k f : ℕ) → k ≡ capped n → f ≤ k → f < 2 ^ 64 → Finds (IsScaled false n v f) (Some (capped (v * 10 ^ (k - f))))
up v n k f e h s =
    let g : n - f + f ≡ n = omega arith in
    let p : 10 ^ n ≡ 10 ^ (n - f) * 10 ^ f = ap (λ x. 10 ^ x) (sym g) ∙ pow-add 10 (n - f) f in (
      v * 10 ^ (n - f),
      omega (arith, ap (λ x. v * x) p),
      ⊎_elim
          (λ a. past_cap v (k - f) (n - f) (omega arith) (omega arith))
          (λ b. let same : k ≡ n = omega arith in ap (λ x. capped (v * 10 ^ (x - f))) same)
          (cases_lt (2 ^ 65) n),
    )

divided : (v n f m : ℕ) → IsScaled true n v f m → v ≡ m * 10 ^ (f + n)
divided v n f m h = omega (arith, h, ap (λ x. m * x) (pow-add 10 f n))

to_divided : (v n f m : ℕ) → v ≡ m * 10 ^ (f + n) → IsScaled true n v f m
to_divided v n f m h = omega (arith, h, ap (λ x. m * x) (pow-add 10 f n))

multiplied : (v n f m : ℕ) → n < f → IsScaled false n v f m → v ≡ m * 10 ^ (f - n)
multiplied v n f m l h =
    let g : f - n + n ≡ f = omega arith in
    let p : 10 ^ f ≡ 10 ^ (f - n) * 10 ^ n = ap (λ x. 10 ^ x) (sym g) ∙ pow-add 10 (f - n) n in
    eq_of_mul-eq-mul_right (10 ^ n) (omega (arith, one_power n)) v (m * 10 ^ (f - n))
    (omega (arith, h, ap (λ x. m * x) p))

to_multiplied : (v n f m : ℕ) → n < f → v ≡ m * 10 ^ (f - n) → IsScaled false n v f m
to_multiplied v n f m l h =
    let g : f - n + n ≡ f = omega arith in
    let p : 10 ^ f ≡ 10 ^ (f - n) * 10 ^ n = ap (λ x. 10 ^ x) (sym g) ∙ pow-add 10 (f - n) n in
    omega (arith, ap (λ x. x * 10 ^ n) h, ap (λ x. m * x) p)

is_le : (a b : ℕ) → leb a b ≡ true → a ≤ b
is_le a b h = grind (arith, nat_tests)

not_le : (a b : ℕ) → leb a b ≡ false → b < a
not_le a b h = grind (arith, nat_tests)

module _ (int ds : List ℕ) (n k : ℕ) (cap : k ≡ capped n) (hi : AllDigits 10 int) (hd : AllDigits 10 ds)
    (short : length (int ++ ds) < 2 ^ 64) where
  -- the magnitude that is found is the one that the definition wants
  places_find : (negative t : Bool) → leb (length ds) k ≡ t
      → Finds (IsScaled negative n (digits_value 10 (int ++ ds)) (length ds))
      (magnitude_of int ds (cond negative (Dropped (length ds + k))
      (cond t (Added (k - length ds)) (Dropped (length ds - k)))))
  places_find true t e =
      let v = digits_value 10 (int ++ ds) in
      let f = length ds in
      finds_by (λ m. v ≡ m * 10 ^ (f + n)) (IsScaled true n v f) (magnitude_of int ds (Dropped (f + k)))
      (λ m. to_divided v n f m) (λ m. divided v n f m)
      (down int ds (f + n) (f + k) hi hd (omega arith))
  places_find false true e = up (digits_value 10 (int ++ ds)) n k (length ds) cap (is_le (length ds) k e)
      (omega (arith, length-append int ds))
  places_find false false e =
      let v = digits_value 10 (int ++ ds) in
      let f = length ds in
      let b : k < f = not_le f k e in
      let l : n < f = omega (arith, length-append int ds) in
      finds_by (λ m. v ≡ m * 10 ^ (f - n)) (IsScaled false n v f) (magnitude_of int ds (Dropped (f - k)))
      (λ m. to_multiplied v n f m l) (λ m. multiplied v n f m l)
      (down int ds (f - n) (f - k) hi hd (omega (arith, length-append int ds)))

-- a number's magnitude: with its sign it is the integer
abbrev pub IsMagnitude : NumberParts → ℕ → Type 0
IsMagnitude p m = significand p * multiplier (exponent_value p.exponent) ≡ m *
    (10 ^ length (fraction_digits p) * divisor (exponent_value p.exponent))

module _ (p : NumberParts) where
  to_scaled : (m : ℕ) → IsMagnitude p m
      → IsScaled (is_negative p.exponent) (size_of p.exponent) (significand p) (length (fraction_digits p)) m
  to_scaled m h =
      let s = exponent_scale p.exponent in
      sym (ap (λ x. significand p * x) s.multiplier_is) ∙ h
      ∙ ap (λ x. m * (10 ^ length (fraction_digits p) * x)) s.divisor_is

  from_scaled : (m : ℕ)
      → IsScaled (is_negative p.exponent) (size_of p.exponent) (significand p) (length (fraction_digits p)) m
      → IsMagnitude p m
  from_scaled m h =
      let s = exponent_scale p.exponent in
      ap (λ x. significand p * x) s.multiplier_is ∙ h
      ∙ sym (ap (λ x. m * (10 ^ length (fraction_digits p) * x)) s.divisor_is)

-- the magnitude of a number is found
pub magnitude_found : (p : NumberParts) → AreNumberParts p → length (p.int ++ fraction_digits p) < 2 ^ 64
    → Finds (IsMagnitude p) (magnitude_of p.int (fraction_digits p) (places_of (length (fraction_digits p)) p.exponent))
magnitude_found p h short =
    let ds = fraction_digits p in
    let negative = is_negative p.exponent in
    let k = exponent_size p.exponent in
    finds_by (IsScaled negative (size_of p.exponent) (significand p) (length ds)) (IsMagnitude p)
    (magnitude_of p.int ds (places_of (length ds) p.exponent))
    (from_scaled p) (to_scaled p)
    (places_find p.int ds (size_of p.exponent) k (exponent_size_is p.exponent) (int_digits p.int h.int)
    (fraction_digits_are p.fraction h.fraction) short negative (leb (length ds) k) refl)
