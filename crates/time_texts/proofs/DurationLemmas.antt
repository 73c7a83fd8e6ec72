-- A text is cut into the parts of a duration in one way, and the tests tell whether it is one.
use Rattle.std.proofs.Common.{◌≡◌, ℕ, zero, suc, ◌<◌, ◌≤◌, min, Bool, true, false, cond, not, eqb, List, [], ◌∷◌, ◌++◌, length, take, drop, refl, sym, ap, ap₂, subst, ◌∙◌, arith, eqb-true, take-append-drop, Ok, Err, ⊎_elim, inl, inr, ◌⊎◌}
use Rattle.std.specs.Prelude.{codes, unsigned_abs}
use Rattle.std.proofs.lemmas.Bool.{and_parts, and_from}
use Rattle.std.proofs.lemmas.Bool.Decides.{nat_tests}
use Rattle.std.proofs.lemmas.Slice.Eq.{bytes_eq-Decides}
use Rattle.std.specs.Char.{is_ascii_digit}
use Rattle.std.specs.List.{prefix_len}
use Rattle.std.specs.Str.Parse.{digits_value}
use Rattle.jiff_core.specs.Sign.{signed}
use Rattle.time_texts.specs.Digits.{are_all_digits, are_some_digits}
use Rattle.time_texts.specs.Fractions.{fraction_len, nanos_of}
use Rattle.time_texts.specs.DurationTexts.{DurationParts, duration_parts_text, is_minus, are_duration_parts, duration_moment, IsDurationText, MeansDuration, IsDurationReading}
use Rattle.time_texts.specs.DurationCut.{minus_len, cut_behind, cut_unsigned, cut_duration, are_cut_parts}
use Rattle.time_texts.specs.declared.moment.Moment.{Moment}
use Rattle.time_texts.specs.declared.fault.TimeFault.TheVariants.{BadText, OutOfRange}
use Rattle.time_texts.proofs.FractionLemmas.{NoDigit, NoPoint, len_of_digits, len_of_fraction, fraction_begins, at_seam}

-- the parts are the text
pub cut_text : (s : List ℕ) → duration_parts_text (cut_duration s) ≡ s
cut_text s =
    let m = minus_len s in
    let u = drop m s in
    let n = prefix_len is_ascii_digit u in
    let v = drop n u in
    ap (λ x. take m s ++ (take n u ++ x)) (take-append-drop (fraction_len v) v)
    ∙ ap (λ x. take m s ++ x) (take-append-drop n u)
    ∙ take-append-drop m s

minus_is : (s : List ℕ) → is_minus (take (minus_len s) s) ≡ true
minus_is [] = refl
minus_is (b ∷ s) = choice (eqb b 45) refl
  where
    choice : (t : Bool) → eqb b 45 ≡ t → is_minus (take (cond t 1 0) (b ∷ s)) ≡ true
    choice true e = subst (λ (x : ℕ). is_minus (x ∷ []) ≡ true) (sym (eqb-true b 45 e)) refl
    choice false e = refl

-- a minus is one of two lists
minus_cases : (m : List ℕ) → is_minus m ≡ true → (m ≡ []) ⊎ (m ≡ codes "-")
minus_cases [] h = inl refl
minus_cases (b ∷ bs) h = inr ((bytes_eq-Decides (b ∷ bs) (codes "-")).0 h)

no_minus : (ds r : List ℕ) → are_some_digits ds ≡ true → minus_len (ds ++ r) ≡ 0
no_minus [] r h = absurd (cc)
no_minus (d ∷ ds) r h =
    ap (λ t. cond t 1 0) (not_45 d (and_parts _ _ (and_parts _ _ h).1).0)
  where
    not_45 : (d : ℕ) → is_ascii_digit d ≡ true → eqb d 45 ≡ false
    not_45 d h = grind (arith, nat_tests)

len_of_minus : (m ds r : List ℕ) → is_minus m ≡ true → are_some_digits ds ≡ true
    → minus_len (m ++ (ds ++ r)) ≡ length m
len_of_minus m ds r h k = ⊎_elim
    (λ e. subst (λ (x : List ℕ). minus_len (x ++ (ds ++ r)) ≡ length x) (sym e) (no_minus ds r k))
    (λ e. subst (λ (x : List ℕ). minus_len (x ++ (ds ++ r)) ≡ length x) (sym e) refl)
    (minus_cases m h)

unit_stops : (u : List ℕ) → u ≡ codes "s" → NoDigit u × NoPoint u
unfolding NoDigit NoPoint
unit_stops u e = subst (λ (x : List ℕ). NoDigit x × NoPoint x) (sym e) (refl, refl)

-- the parts of a duration are found
pub cut_is : (p : DurationParts) → are_duration_parts p ≡ true → cut_duration (duration_parts_text p) ≡ p
cut_is p h =
    let a = and_parts _ _ h in
    let b = and_parts _ _ a.1 in
    let d = and_parts _ _ b.1 in
    let digits : are_all_digits p.whole ≡ true = (and_parts _ _ b.0).1 in
    let stops = unit_stops p.unit ((bytes_eq-Decides p.unit (codes "s")).0 d.1) in
    let f : List ℕ = p.fraction ++ p.unit in
    let w : List ℕ = p.whole ++ f in
    let at_minus = len_of_minus p.minus p.whole f a.0 b.0 in
    let at_digits = len_of_digits p.whole f digits (fraction_begins p.fraction p.unit d.0 stops.0) in
    let at_fraction = len_of_fraction p.fraction p.unit d.0 stops.0 stops.1 in
    let minus = at_seam p.minus w (minus_len (p.minus ++ w)) at_minus in
    let whole = at_seam p.whole f (prefix_len is_ascii_digit w) at_digits in
    let rest = at_seam p.fraction p.unit (fraction_len f) at_fraction in
    ap₂ cut_unsigned minus.0 minus.1
    ∙ ap₂ (cut_behind p.minus) whole.0 whole.1
    ∙ ap₂ (λ x y. record { minus = p.minus; whole = p.whole; fraction = x; unit = y }) rest.0 rest.1

-- a text that the tests accept is a duration's
pub cut_written : (s : List ℕ) → are_cut_parts (cut_duration s) ≡ true → IsDurationText s (cut_duration s)
cut_written s h = record { text_is = sym (cut_text s); allowed = and_from _ _ (minus_is s) h }

-- of those parts alone
pub same_parts : (s : List ℕ) (p : DurationParts) → IsDurationText s p → cut_duration s ≡ p
same_parts s p w = ap cut_duration w.text_is ∙ cut_is p w.allowed

-- and a text that they refuse is none
pub not_written : (s : List ℕ) → are_cut_parts (cut_duration s) ≡ false
    → (p : DurationParts) → IsDurationText s p → ⊥
not_written s h p w =
    let same = ap are_cut_parts (same_parts s p w) in
    let allowed : are_cut_parts p ≡ true = (and_parts _ _ w.allowed).1 in
    absurd (cc)

-- a number that was capped past the most
capped_past : (n v : ℕ) → v ≡ min n 315_576_000_001 → 315_576_000_000 < v → 315_576_000_000 < n
capped_past n v e h = omega arith

capped_within : (n v : ℕ) → v ≡ min n 315_576_000_001 → v ≤ 315_576_000_000 → v ≡ n
capped_within n v e h = omega arith

-- a sign changes no size
pub signed_size : (b : Bool) (n : ℕ) → unsigned_abs (signed b n) ≡ n
signed_size false n = refl
signed_size true zero = refl
signed_size true (suc n) = refl

-- what is read of a text: where it is no duration's
pub bad_duration : (s : List ℕ) (q : DurationParts) → q ≡ cut_duration s → are_cut_parts q ≡ false
    → IsDurationReading s (Err BadText)
bad_duration s q e h = not_written s (ap are_cut_parts (sym e) ∙ h)

-- where its seconds are too many
pub far_duration : (s : List ℕ) (q : DurationParts) (v : ℕ) → q ≡ cut_duration s → are_cut_parts q ≡ true
    → v ≡ min (digits_value 10 q.whole) 315_576_000_001 → 315_576_000_000 < v → IsDurationReading s (Err OutOfRange)
far_duration s q v e h capped past = (
  cut_duration s,
  cut_written s (ap are_cut_parts (sym e) ∙ h),
  subst (λ (p : DurationParts). 315_576_000_000 < digits_value 10 p.whole) e
      (capped_past (digits_value 10 q.whole) v capped past),
)

-- and where it is one in range
pub good_duration : (s : List ℕ) (q : DurationParts) (v : ℕ) (m : Moment) → q ≡ cut_duration s
    → are_cut_parts q ≡ true → v ≡ min (digits_value 10 q.whole) 315_576_000_001 → v ≤ 315_576_000_000
    → m.seconds ≡ signed (not (eqb (length q.minus) 0)) v
    → m.nanos ≡ signed (not (eqb (length q.minus) 0)) (nanos_of q.fraction)
    → IsDurationReading s (Ok m)
good_duration s q v m e h capped within seconds nanos =
    let v_is : v ≡ digits_value 10 q.whole = capped_within (digits_value 10 q.whole) v capped within in
    let negative : Bool = not (eqb (length q.minus) 0) in
    let here : m ≡ duration_moment q =
    ap₂ (λ x y. record { seconds = x; nanos = y }) (seconds ∙ ap (signed negative) v_is) nanos in
    record {
      parts = cut_duration s;
      written = cut_written s (ap are_cut_parts (sym e) ∙ h);
      in_range = subst (λ n. n ≤ 315_576_000_000) (sym (ap unsigned_abs seconds ∙ signed_size negative v)) within;
      moment_is = here ∙ ap duration_moment e;
    }

-- a text does not say both
pub far_or_within : (s : List ℕ) (a : Moment) → MeansDuration s a
    → (p : DurationParts) → IsDurationText s p → 315_576_000_000 < digits_value 10 p.whole → ⊥
far_or_within s a m p w past =
    let same : m.parts ≡ p = sym (same_parts s m.parts m.written) ∙ same_parts s p w in
    let size : unsigned_abs a.seconds ≡ digits_value 10 m.parts.whole =
    ap (λ (x : Moment). unsigned_abs x.seconds) m.moment_is
    ∙ signed_size (not (eqb (length m.parts.minus) 0)) (digits_value 10 m.parts.whole) in
    let digits : digits_value 10 m.parts.whole ≡ digits_value 10 p.whole =
    ap (λ (q : DurationParts). digits_value 10 q.whole) same in
    absurd (omega (arith, size, digits, m.in_range, past))
