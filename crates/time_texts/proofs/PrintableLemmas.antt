-- What a text means is printable, and whether a duration or an instant is, is computed.
use Rattle.std.proofs.Common.{◌≡◌, ℕ, zero, suc, ◌+◌, ◌-◌, ◌*◌, ◌^◌, ◌<◌, ◌≤◌, Bool, true, false, not, ◌||◌, eqb, List, [], ◌∷◌, length, refl, sym, ap, subst, ◌∙◌, arith}
use Rattle.std.proofs.Math.Nat.{pow-suc}
use Rattle.std.specs.Prelude.{ℤ, pos, unsigned_abs, ◌<ℤ◌, ◌≤ℤ◌, nat_le, nat_lt, int_le}
use Rattle.std.specs.Bool.{Decides}
use Rattle.std.proofs.lemmas.Bool.{and_parts}
use Rattle.std.proofs.lemmas.Bool.Decides.{Decides-and, Decides-like, Decides-ltb}
use Rattle.std.proofs.lemmas.Int.{ints}
use Rattle.std.specs.Str.Parse.{digits_value}
use Rattle.jiff_core.specs.Sign.{signed}
use Rattle.time_texts.specs.Digits.{are_all_digits}
use Rattle.time_texts.specs.Fractions.{is_fraction, nanos_of}
use Rattle.time_texts.specs.DurationTexts.{MeansDuration, IsPrintableDuration}
use Rattle.time_texts.specs.TimestampTexts.{MeansTimestamp, IsPrintableTimestamp, IsTimestampSeconds}
use Rattle.time_texts.specs.TimestampReading.{are_timestamp_seconds}
use Rattle.time_texts.specs.PrintableTimes.{are_signs_alike, is_printable_duration, is_printable_timestamp}
use Rattle.time_texts.specs.declared.moment.Moment.{Moment}
use Rattle.time_texts.proofs.DigitLemmas.{value_below, scale_below}
use Rattle.time_texts.proofs.DurationLemmas.{signed_size}
use Rattle.time_texts.proofs.ReadingLemmas.{at_most, at_most_z, seconds_decide}

-- a number with zeros behind its digits has so many digits more
scaled_below : (v p k : ℕ) → v < 10 ^ p → v * 10 ^ k < 10 ^ (p + k)
scaled_below v p zero h = let e : p + 0 ≡ p = omega arith in rw e (omega arith)
scaled_below v p (suc k) h =
    let e : p + suc k ≡ (p + 1) + k = omega arith in
    let more = scaled_below (v * 10) (p + 1) k (scale_below v p h) in
    let times : v * (10 ^ k * 10) ≡ v * 10 * 10 ^ k = omega arith in
    rw e (subst (λ n. n < 10 ^ (p + 1 + k)) (sym (ap (λ n. v * n) (pow-suc 10 k) ∙ times)) more)

-- a fraction is less than a second
pub fraction_below : (f : List ℕ) → is_fraction f ≡ true → nanos_of f < 1_000_000_000
fraction_below [] h = omega arith
fraction_below (b ∷ ds) h =
    let k = and_parts _ _ (and_parts _ _ (and_parts _ _ h).1).1 in
    let digits : are_all_digits ds ≡ true = k.1 in
    let e : length ds + (9 - length ds) ≡ 9 = filled (length ds) ((at_most (length ds) 9).0 k.0) in
    subst (λ n. digits_value 10 ds * 10 ^ (9 - length ds) < 10 ^ n) e
    (scaled_below (digits_value 10 ds) (length ds) (9 - length ds) (value_below ds digits))
  where
    filled : (n : ℕ) → n ≤ 9 → n + (9 - n) ≡ 9
    filled n h = omega arith

-- two numbers of one sign
same_signs : (b : Bool) (a n : ℕ)
    → (pos 0 <ℤ signed b a → pos 0 ≤ℤ signed b n) × (signed b a <ℤ pos 0 → signed b n ≤ℤ pos 0)
same_signs false a n = (λ h. omega (arith, ints), λ h. absurd (omega (arith, ints, h)))
same_signs true a n = (λ h. absurd (omega (arith, ints, h)), λ h. omega (arith, ints))

-- a duration that a text means has a text
pub duration_printable : (s : List ℕ) (m : Moment) → MeansDuration s m → IsPrintableDuration m
duration_printable s m w =
    let p = w.parts in
    let b : Bool = not (eqb (length p.minus) 0) in
    let a = and_parts _ _ (and_parts _ _ w.written.allowed).1 in
    let fraction : is_fraction p.fraction ≡ true = (and_parts _ _ a.1).0 in
    let nanos : unsigned_abs m.nanos ≡ nanos_of p.fraction =
    ap (λ (x : Moment). unsigned_abs x.nanos) w.moment_is ∙ signed_size b (nanos_of p.fraction) in
    let signs = same_signs b (digits_value 10 p.whole) (nanos_of p.fraction) in
    record {
      seconds = w.in_range;
      nanos = subst (λ n. n < 1_000_000_000) (sym nanos) (fraction_below p.fraction fraction);
      positive = subst (λ (x : Moment). pos 0 <ℤ x.seconds → pos 0 ≤ℤ x.nanos) (sym w.moment_is) signs.0;
      negative = subst (λ (x : Moment). x.seconds <ℤ pos 0 → x.nanos ≤ℤ pos 0) (sym w.moment_is) signs.1;
    }

-- and so has an instant
pub timestamp_printable : (s : List ℕ) (m : Moment) → MeansTimestamp s m → IsPrintableTimestamp m
timestamp_printable s m w =
    let p = w.parts in
    let fraction : is_fraction p.fraction ≡ true = (and_parts _ _ (and_parts _ _ w.written.form).1).0 in
    let nanos : m.nanos ≡ pos (nanos_of p.fraction) = ap (λ (x : Moment). x.nanos) w.moment_is in
    record {
      seconds = subst (λ (x : Moment). IsTimestampSeconds x.seconds) (sym w.moment_is) w.in_range.seconds;
      nanos_from = subst (λ z. pos 0 ≤ℤ z) (sym nanos) (from (nanos_of p.fraction));
      nanos_to = subst (λ z. z ≤ℤ pos 999_999_999) (sym nanos)
          (to (nanos_of p.fraction) (fraction_below p.fraction fraction));
    }
  where
    from : (n : ℕ) → pos 0 ≤ℤ pos n
    from n = omega (arith, ints)

    to : (n : ℕ) → n < 1_000_000_000 → pos n ≤ℤ pos 999_999_999
    to n h = omega (arith, ints, h)

-- the signs do not differ
signs_decide : (m : Moment) → Decides (are_signs_alike m)
    ((pos 0 <ℤ m.seconds → pos 0 ≤ℤ m.nanos) × (m.seconds <ℤ pos 0 → m.nanos ≤ℤ pos 0))
signs_decide m =
    Decides-and (int_le m.seconds (pos 0) || int_le (pos 0) m.nanos)
    (int_le (pos 0) m.seconds || int_le m.nanos (pos 0))
    (by m.seconds (pos 0) (int_le m.seconds (pos 0)) (int_le (pos 0) m.nanos) refl (at_most_z (pos 0) m.nanos))
    (by (pos 0) m.seconds (int_le (pos 0) m.seconds) (int_le m.nanos (pos 0)) refl (at_most_z m.nanos (pos 0)))
  where
    by : {P : Type 0} → (a b : ℤ) (t u : Bool) → int_le a b ≡ t → Decides u P → Decides (t || u) (b <ℤ a → P)
    by a b true u e d = (λ _ past. absurd (omega (arith, ints, past)), λ _. refl)
    by a b false u e d = (λ x _. d.0 x, λ f. d.1 (f (omega (arith, ints))))

-- a duration has a text
pub duration_decides : (m : Moment) → Decides (is_printable_duration m) (IsPrintableDuration m)
duration_decides m =
    Decides-like (is_printable_duration m)
    (λ k. record { seconds = k.0; nanos = k.1.0; positive = k.1.1.0; negative = k.1.1.1 })
    (λ k. (k.seconds, (k.nanos, (k.positive, k.negative))))
    (Decides-and (nat_le (unsigned_abs m.seconds) 315_576_000_000) _
    (at_most (unsigned_abs m.seconds) 315_576_000_000)
    (Decides-and (nat_lt (unsigned_abs m.nanos) 1_000_000_000) (are_signs_alike m)
    (Decides-ltb (unsigned_abs m.nanos) 1_000_000_000) (signs_decide m)))

-- an instant has one
pub timestamp_decides : (m : Moment) → Decides (is_printable_timestamp m) (IsPrintableTimestamp m)
timestamp_decides m =
    Decides-like (is_printable_timestamp m)
    (λ k. record { seconds = k.0; nanos_from = k.1.0; nanos_to = k.1.1 })
    (λ k. (k.seconds, (k.nanos_from, k.nanos_to)))
    (Decides-and (are_timestamp_seconds m.seconds) _ (seconds_decide m.seconds)
    (Decides-and (int_le (pos 0) m.nanos) (int_le m.nanos (pos 999_999_999)) (at_most_z (pos 0) m.nanos)
    (at_most_z m.nanos (pos 999_999_999))))
