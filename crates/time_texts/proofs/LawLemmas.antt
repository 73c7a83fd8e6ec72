-- A text has one meaning at most, one answer, and an instant one text.
use Rattle.std.proofs.Common.{◌≡◌, ℕ, ◌<◌, List, refl, sym, ap, subst, ◌∙◌, arith, Result, Ok, Err}
use Rattle.std.specs.Prelude.{ℤ, pos, unsigned_abs, ◌+ℤ◌, ◌*ℤ◌}
use Rattle.jiff_core.proofs.DateLemmas.{epoch_day_injective}
use Rattle.jiff_core.proofs.SignedLemmas.{signed_arith}
use Rattle.jiff_core.specs.Calendar.{IsCivilDate, days_from_civil}
use Rattle.jiff_core.specs.declared.civil.date.Date.{Date}
use Rattle.time_texts.specs.DurationTexts.{MeansDuration, IsDurationReading, duration_moment}
use Rattle.time_texts.specs.TimestampTexts.{TimestampParts, IsTimestampText, MeansTimestamp, IsTimestampReading, IsTimestampShown, IsTimestampRange, IsUtcOf, civil_of, civil_moment, utc_text}
use Rattle.time_texts.specs.declared.moment.Moment.{Moment}
use Rattle.time_texts.specs.declared.timestamp.Utc.{Utc}
use Rattle.time_texts.specs.declared.fault.TimeFault.{TimeFault}
use Rattle.time_texts.specs.declared.fault.TimeFault.TheVariants.{BadText, OutOfRange}
use Rattle.time_texts.proofs.DurationLemmas as duration
use Rattle.time_texts.proofs.TimestampLemmas as timestamp

-- a text means one duration
pub one_duration : (s : List ℕ) (a b : Moment) → MeansDuration s a → MeansDuration s b → a ≡ b
one_duration s a b x y =
    x.moment_is
    ∙ ap duration_moment (sym (duration.same_parts s x.parts x.written) ∙ duration.same_parts s y.parts y.written)
    ∙ sym y.moment_is

-- and one instant
pub one_timestamp : (s : List ℕ) (a b : Moment) → MeansTimestamp s a → MeansTimestamp s b → a ≡ b
one_timestamp s a b x y =
    x.moment_is
    ∙ ap (λ p. civil_moment (civil_of p))
    (sym (timestamp.same_parts s x.parts x.written) ∙ timestamp.same_parts s y.parts y.written)
    ∙ sym y.moment_is

-- a text has one answer as a duration
pub one_duration_reading : (s : List ℕ) (q r : Result Moment TimeFault) → IsDurationReading s q → IsDurationReading s r
    → q ≡ r
one_duration_reading s (Ok a) (Ok b) h k = ap Ok (one_duration s a b h k)
one_duration_reading s (Ok a) (Err BadText) h k = absurd (k h.parts h.written)
one_duration_reading s (Ok a) (Err OutOfRange) h k = absurd (duration.far_or_within s a h k.0 k.1 k.2)
one_duration_reading s (Err BadText) (Ok b) h k = absurd (h k.parts k.written)
one_duration_reading s (Err BadText) (Err BadText) h k = refl
one_duration_reading s (Err BadText) (Err OutOfRange) h k = absurd (h k.0 k.1)
one_duration_reading s (Err OutOfRange) (Ok b) h k = absurd (duration.far_or_within s b k h.0 h.1 h.2)
one_duration_reading s (Err OutOfRange) (Err BadText) h k = absurd (k h.0 h.1)
one_duration_reading s (Err OutOfRange) (Err OutOfRange) h k = refl

-- a text's parts are in range whichever way they were found
in_range : (s : List ℕ) (p q : TimestampParts) → IsTimestampText s p → IsTimestampText s q
    → IsTimestampRange (civil_of p) → IsTimestampRange (civil_of q)
in_range s p q x y r =
    subst (λ t. IsTimestampRange (civil_of t)) (sym (timestamp.same_parts s p x) ∙ timestamp.same_parts s q y) r

-- and one as a timestamp
pub one_timestamp_reading : (s : List ℕ) (q r : Result Moment TimeFault) → IsTimestampReading s q
    → IsTimestampReading s r → q ≡ r
one_timestamp_reading s (Ok a) (Ok b) h k = ap Ok (one_timestamp s a b h k)
one_timestamp_reading s (Ok a) (Err BadText) h k = absurd (k h.parts h.written)
one_timestamp_reading s (Ok a) (Err OutOfRange) h k = absurd (k.2 (in_range s h.parts k.0 h.written k.1 h.in_range))
one_timestamp_reading s (Err BadText) (Ok b) h k = absurd (h k.parts k.written)
one_timestamp_reading s (Err BadText) (Err BadText) h k = refl
one_timestamp_reading s (Err BadText) (Err OutOfRange) h k = absurd (h k.0 k.1)
one_timestamp_reading s (Err OutOfRange) (Ok b) h k = absurd (h.2 (in_range s k.parts h.0 k.written h.1 k.in_range))
one_timestamp_reading s (Err OutOfRange) (Err BadText) h k = absurd (k h.0 h.1)
one_timestamp_reading s (Err OutOfRange) (Err OutOfRange) h k = refl

-- a date of the calendar
date_at : (u : Utc) → IsCivilDate (pos u.year) u.month u.day → Date
date_at u real = record {
  year = pos u.year;
  month = u.month;
  day = u.day;
  year_in = real.0;
  month_in = real.1;
  day_in = real.2;
}

same_day : (s d e : ℤ) (m n : ℕ) → m < 86400 → n < 86400 → s ≡ d *ℤ pos 86400 +ℤ pos m
    → s ≡ e *ℤ pos 86400 +ℤ pos n → (d ≡ e) × (m ≡ n)
same_day s d e m n small also p q = (omega (arith, signed_arith, p, q), omega (arith, signed_arith, p, q))

pos_one : (a b : ℕ) → pos a ≡ pos b → a ≡ b
pos_one a b e = cc

-- one time in UTC is that of so many seconds
one_utc : (s : ℤ) (u v : Utc) → IsUtcOf s u → IsUtcOf s v → u ≡ v
unfolding date_at
one_utc s u v x y =
    let same = same_day s (days_from_civil (pos u.year) u.month u.day) (days_from_civil (pos v.year) v.month v.day)
    u.clock v.clock x.clock_in y.clock_in x.seconds_are y.seconds_are in
    let parts = epoch_day_injective (date_at u x.real) (date_at v y.real) same.0 in
    built u.year v.year u.month v.month u.day v.day u.clock v.clock (pos_one u.year v.year parts.0) parts.1 parts.2
    same.1
  where
    built : (a a' b b' c c' d d' : ℕ) → a ≡ a' → b ≡ b' → c ≡ c' → d ≡ d'
        → ◌≡◌ {A = Utc} (record { year = a; month = b; day = c; clock = d })
        (record { year = a'; month = b'; day = c'; clock = d' })
    built a a' b b' c c' d d' e₁ e₂ e₃ e₄ = cc

-- an instant has one text
pub one_text : (m : Moment) (s t : List ℕ) → IsTimestampShown m s → IsTimestampShown m t → s ≡ t
one_text m s t x y =
    x.text_is
    ∙ ap (λ u. utc_text u (unsigned_abs m.nanos)) (one_utc m.seconds x.utc y.utc x.utc_is y.utc_is)
    ∙ sym y.text_is
