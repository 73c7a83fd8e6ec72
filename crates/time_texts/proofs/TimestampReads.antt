-- The tests tell whether a text is a timestamp's, and what is read of it.
use Rattle.std.proofs.Common.{◌≡◌, ℕ, Bool, true, false, cond, ◌&&◌, List, length, drop, refl, sym, ap, ap₂, subst, ◌∙◌, Some, None, Result, Ok, Err}
use Rattle.std.specs.Prelude.{nat_le}
use Rattle.std.proofs.lemmas.Bool.{and_parts, and_from}
use Rattle.time_texts.specs.Digits.{are_all_digits}
use Rattle.time_texts.specs.Fractions.{is_fraction}
use Rattle.time_texts.specs.TimestampTexts.{TimestampParts, civil_of, civil_moment, IsRealCivil, IsTimestampText, IsTimestampRange, IsCivilReading, IsTimestampReading}
use Rattle.time_texts.specs.TimestampCut.{part_at, has_marks, has_date_digits, has_clock_digits, has_front, is_zone, cut_front, fraction_behind, zone_behind, cut_timestamp, has_form, civil_in}
use Rattle.time_texts.specs.declared.civil.Civil.{Civil}
use Rattle.time_texts.specs.declared.moment.Moment.{Moment}
use Rattle.time_texts.specs.declared.fault.TimeFault.{TimeFault}
use Rattle.time_texts.specs.declared.fault.TimeFault.TheVariants.{BadText, OutOfRange}
use Rattle.time_texts.proofs.TimestampLemmas.{form_text, form_parts, same_parts, same_form}

-- the numbers of the clock are digits where a text begins as a date and a clock do
pub clock_digits : (s : List ℕ) → has_front s ≡ true → has_clock_digits s ≡ true
clock_digits s h =
    let behind = and_parts (nat_le 19 (length s)) (has_marks s && (has_date_digits s && has_clock_digits s)) h in
    let marked = and_parts (has_marks s) (has_date_digits s && has_clock_digits s) behind.1 in
    (and_parts (has_date_digits s) (has_clock_digits s) marked.1).1

minutes_and_seconds : (s : List ℕ) → has_front s ≡ true
    → (are_all_digits (part_at s 14 2) && are_all_digits (part_at s 17 2)) ≡ true
minutes_and_seconds s h =
    (and_parts (are_all_digits (part_at s 11 2)) (are_all_digits (part_at s 14 2) && are_all_digits (part_at s 17 2))
    (clock_digits s h)).1

-- those of the hours
pub hour_digits : (s : List ℕ) → has_front s ≡ true → are_all_digits (part_at s 11 2) ≡ true
hour_digits s h =
    (and_parts (are_all_digits (part_at s 11 2)) (are_all_digits (part_at s 14 2) && are_all_digits (part_at s 17 2))
    (clock_digits s h)).0

-- those of the minutes
pub minute_digits : (s : List ℕ) → has_front s ≡ true → are_all_digits (part_at s 14 2) ≡ true
minute_digits s h =
    (and_parts (are_all_digits (part_at s 14 2)) (are_all_digits (part_at s 17 2)) (minutes_and_seconds s h)).0

-- and of the seconds
pub second_digits : (s : List ℕ) → has_front s ≡ true → are_all_digits (part_at s 17 2) ≡ true
second_digits s h =
    (and_parts (are_all_digits (part_at s 14 2)) (are_all_digits (part_at s 17 2)) (minutes_and_seconds s h)).1

-- the numbers of a text whose parts passed
pub seen_form : (s b f z : List ℕ) (c : Civil) → has_front s ≡ true → b ≡ drop 19 s → f ≡ fraction_behind b
    → z ≡ zone_behind b → (is_fraction f && is_zone z) ≡ true → c ≡ civil_of (cut_front s f z) → Some c ≡ civil_in s
seen_form s b f z c front at_b at_f at_z passes is =
    let f_is : f ≡ fraction_behind (drop 19 s) = at_f ∙ ap fraction_behind at_b in
    let z_is : z ≡ zone_behind (drop 19 s) = at_z ∙ ap zone_behind at_b in
    let form : has_form s ≡ true =
    and_from _ _ front (ap₂ (λ x y. is_fraction x && is_zone y) (sym f_is) (sym z_is) ∙ passes) in
    ap Some (is ∙ ap₂ (λ x y. civil_of (cut_front s x y)) f_is z_is)
    ∙ sym (ap (λ t. cond t (Some (civil_of (cut_timestamp s))) None) form)

-- and none of one that did not
pub unseen_front : (s : List ℕ) → has_front s ≡ false → None ≡ civil_in s
unseen_front s h =
    let passes = is_fraction (fraction_behind (drop 19 s)) && is_zone (zone_behind (drop 19 s)) in
    sym (ap (λ t. cond (t && passes) (Some (civil_of (cut_timestamp s))) None) h)

-- nor of one whose rest is no fraction and zone
pub unseen_rest : (s b f z : List ℕ) → b ≡ drop 19 s → f ≡ fraction_behind b → z ≡ zone_behind b
    → (is_fraction f && is_zone z) ≡ false → None ≡ civil_in s
unseen_rest s b f z at_b at_f at_z fails =
    let f_is : f ≡ fraction_behind (drop 19 s) = at_f ∙ ap fraction_behind at_b in
    let z_is : z ≡ zone_behind (drop 19 s) = at_z ∙ ap zone_behind at_b in
    let rest : (is_fraction (fraction_behind (drop 19 s)) && is_zone (zone_behind (drop 19 s))) ≡ false =
    ap₂ (λ x y. is_fraction x && is_zone y) (sym f_is) (sym z_is) ∙ fails in
    choice (has_front s) (is_fraction (fraction_behind (drop 19 s)) && is_zone (zone_behind (drop 19 s)))
    (civil_of (cut_timestamp s)) rest
  where
    choice : (t u : Bool) (c : Civil) → u ≡ false → None ≡ cond (t && u) (Some c) None
    choice t true c e = absurd (cc)
    choice true false c e = refl
    choice false false c e = refl

-- what the look at a text tells
looked : (t : Bool) (c d : Civil) → cond t (Some d) None ≡ Some c → (t ≡ true) × (d ≡ c)
looked true c d e = (refl, cc)
looked false c d e = absurd (cc)

unseen : (t : Bool) (d : Civil) → cond t (Some d) None ≡ None → t ≡ false
unseen true d e = absurd (cc)
unseen false d e = refl

-- what is read of a text that is of no such form
pub no_timestamp : (s : List ℕ) → civil_in s ≡ None → IsTimestampReading s (Err BadText)
no_timestamp s e p w =
    let no = unseen (has_form s) (civil_of (cut_timestamp s)) e in
    let yes = same_form s p w in
    absurd (cc)

-- and of one that is
pub timestamp_read : (s : List ℕ) (c : Civil) (r : Result Moment TimeFault) → civil_in s ≡ Some c
    → IsCivilReading c r → IsTimestampReading s r
timestamp_read s c (Ok m) e k =
    let x = looked (has_form s) c (civil_of (cut_timestamp s)) e in
    record {
      parts = cut_timestamp s;
      written = record {
        text_is = form_text s x.0;
        form = form_parts s x.0;
        real = subst IsRealCivil (sym x.1) k.0;
      };
      in_range = subst IsTimestampRange (sym x.1) k.1;
      moment_is = k.2 ∙ ap civil_moment (sym x.1);
    }
timestamp_read s c (Err BadText) e k =
    let x = looked (has_form s) c (civil_of (cut_timestamp s)) e in
    λ (p : TimestampParts) (w : IsTimestampText s p).
    k (subst IsRealCivil (ap civil_of (sym (same_parts s p w)) ∙ x.1) w.real)
timestamp_read s c (Err OutOfRange) e k =
    let x = looked (has_form s) c (civil_of (cut_timestamp s)) e in (
      cut_timestamp s,
      record { text_is = form_text s x.0; form = form_parts s x.0; real = subst IsRealCivil (sym x.1) k.0 },
      λ range. k.1 (subst IsTimestampRange x.1 range),
    )
