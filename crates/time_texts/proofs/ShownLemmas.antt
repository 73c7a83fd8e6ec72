-- What is written is read back as the same.
use Rattle.std.proofs.Common.{◌≡◌, ℕ, zero, suc, ◌+◌, ◌*◌, ◌/◌, ◌%◌, ◌^◌, ◌<◌, ◌≤◌, Bool, true, false, cond, not, ◌||◌, eqb, List, [], ◌∷◌, ◌++◌, length, refl, sym, ap, ap₂, subst, ◌∙◌, arith, None, append_assoc, Result, Ok, Err, OnOk}
use Rattle.std.specs.Prelude.{codes, ℤ, pos, negsuc, neg_ℤ, unsigned_abs, ◌<ℤ◌, ◌≤ℤ◌, ◌+ℤ◌, ◌-ℤ◌, ◌*ℤ◌, decimal}
use Rattle.std.proofs.lemmas.Bool.{and_from}
use Rattle.std.proofs.lemmas.Bool.Decides.{nat_tests}
use Rattle.std.proofs.lemmas.Fmt.{decimal_is_IsNumeral}
use Rattle.std.proofs.lemmas.Int.{by_lt_z, ints}
use Rattle.std.proofs.lemmas.Str.Parse.{digit_from_value}
use Rattle.std.specs.Char.{digit_value, is_ascii_digit}
use Rattle.std.specs.Int.{is_negative}
use Rattle.std.specs.Str.Parse.{AllDigits}
use Rattle.jiff_core.proofs.CalendarLemmas.{day_count-lt_year, days_from_civil-day_count, days_in_month_bounds}
use Rattle.jiff_core.proofs.DateLemmas.{civil}
use Rattle.jiff_core.specs.Date.{epoch_day}
use Rattle.jiff_core.specs.declared.civil.date.Date.{Date}
use Rattle.jiff_core.proofs.MarchLemmas.{day_count-early}
use Rattle.jiff_core.proofs.SignedLemmas.{signed_arith}
use Rattle.jiff_core.specs.Calendar.{IsCivilDate, day_count, days_from_civil}
use Rattle.jiff_core.specs.Sign.{signed}
use Rattle.time_texts.specs.Digits.{are_all_digits, are_some_digits, padded}
use Rattle.time_texts.specs.Fractions.{fraction_text}
use Rattle.time_texts.specs.DurationTexts.{DurationParts, signed_text, duration_text, MeansDuration, IsPrintableDuration}
use Rattle.time_texts.specs.TimestampTexts.{TimestampParts, MeansTimestamp, IsTimestampShown, IsPrintableTimestamp, IsTimestampRange, IsTimestampSeconds, IsRealCivil, IsUtcOf, IsDayOf, AppendsTimestamp, civil_of, civil_moment, instant, utc_text}
use Rattle.time_texts.specs.declared.civil.Civil.{Civil}
use Rattle.time_texts.specs.declared.civil.Zone.{Zone}
use Rattle.time_texts.specs.declared.moment.Moment.{Moment}
use Rattle.time_texts.specs.declared.timestamp.Utc.{Utc}
use Rattle.time_texts.proofs.FractionLemmas.{padded_are, padded_value, written_is_fraction, written_nanos}

-- digits by std's word for numerals are digits by the test
digit_tested : (c : ℕ) → digit_value c < 10 → is_ascii_digit c ≡ true
digit_tested c h = let r = digit_from_value c h in tested c r.0 r.1
  where
    tested : (c : ℕ) → 48 ≤ c → c ≤ 57 → is_ascii_digit c ≡ true
    tested c low high = grind (arith, nat_tests)

digits_tested : (ds : List ℕ) → AllDigits 10 ds → are_all_digits ds ≡ true
digits_tested [] h = refl
digits_tested (d ∷ ds) h = and_from _ _ (digit_tested d h.0) (digits_tested ds h.1)

some_tested : (ds : List ℕ) → 0 < length ds → AllDigits 10 ds → are_some_digits ds ≡ true
some_tested ds some h = and_from _ _ (not_none (length ds) some) (digits_tested ds h)
  where
    not_none : (n : ℕ) → 0 < n → not (eqb n 0) ≡ true
    not_none n h = grind (arith, nat_tests)

-- the sign that is written is that of both parts
record SignIs (b : Bool) (s n : ℤ) : Type 0 where
  seconds : signed b (unsigned_abs s) ≡ s
  nanos : signed b (unsigned_abs n) ≡ n

not_negative : (a : ℕ) → is_negative (pos a) ≡ false
not_negative a = grind (arith, nat_tests)

sign_is : (s n : ℤ) → (pos 0 <ℤ s → pos 0 ≤ℤ n) → (s <ℤ pos 0 → n ≤ℤ pos 0)
    → SignIs (is_negative s || is_negative n) s n
sign_is (pos a) (pos b) p q =
    subst (λ (t : Bool). SignIs t (pos a) (pos b)) (sym (ap₂ (λ x y. x || y) (not_negative a) (not_negative b)))
    (record { seconds = refl; nanos = refl })
sign_is (pos zero) (negsuc b) p q = record { seconds = refl; nanos = refl }
sign_is (pos (suc a)) (negsuc b) p q =
    let above : pos 0 <ℤ pos (suc a) = omega (arith, ints) in
    let low = p above in
    absurd (omega (arith, ints, low))
sign_is (negsuc a) (pos zero) p q = record { seconds = refl; nanos = refl }
sign_is (negsuc a) (pos (suc b)) p q =
    let below : negsuc a <ℤ pos 0 = omega (arith, ints) in
    let high = q below in
    absurd (omega (arith, ints, high))
sign_is (negsuc a) (negsuc b) p q = record { seconds = refl; nanos = refl }

-- what is written for a duration, with a minus or without one
written_parts : Bool → Moment → DurationParts
written_parts b m = record {
  minus = cond b (codes "-") [];
  whole = decimal (unsigned_abs m.seconds);
  fraction = fraction_text (unsigned_abs m.nanos);
  unit = codes "s";
}

duration_written : (b : Bool) (m : Moment) → SignIs b m.seconds m.nanos → IsPrintableDuration m
    → MeansDuration (cond b (codes "-") []
    ++ (decimal (unsigned_abs m.seconds) ++ (fraction_text (unsigned_abs m.nanos) ++ codes "s"))) m
unfolding written_parts
duration_written false m sign fits =
    let d = decimal_is_IsNumeral (unsigned_abs m.seconds) (omega (arith, fits.seconds)) in
    record {
      parts = written_parts false m;
      written = record {
        text_is = refl;
        allowed = and_from _ _ (some_tested _ d.0.0 d.0.1)
            (and_from _ _ (written_is_fraction (unsigned_abs m.nanos)) refl);
      };
      in_range = fits.seconds;
      moment_is = ap₂ (λ x y. record { seconds = x; nanos = y })
          (sym sign.seconds ∙ ap pos (sym d.1))
          (sym sign.nanos ∙ ap pos (sym (written_nanos (unsigned_abs m.nanos) fits.nanos)));
    }
duration_written true m sign fits =
    let d = decimal_is_IsNumeral (unsigned_abs m.seconds) (omega (arith, fits.seconds)) in
    record {
      parts = written_parts true m;
      written = record {
        text_is = refl;
        allowed = and_from _ _ (some_tested _ d.0.0 d.0.1)
            (and_from _ _ (written_is_fraction (unsigned_abs m.nanos)) refl);
      };
      in_range = fits.seconds;
      moment_is = ap₂ (λ x y. record { seconds = x; nanos = y })
          (sym sign.seconds ∙ ap (λ n. neg_ℤ (pos n)) (sym d.1))
          (sym sign.nanos ∙ ap (λ n. neg_ℤ (pos n)) (sym (written_nanos (unsigned_abs m.nanos) fits.nanos)));
    }

-- what is written for a duration means it
pub shown_duration : (m : Moment) → IsPrintableDuration m → MeansDuration (duration_text m) m
shown_duration m fits =
    duration_written (is_negative m.seconds || is_negative m.nanos) m
    (sign_is m.seconds m.nanos fits.positive fits.negative) fits

-- the first day of the year 1
pub first_day : day_count (pos 1) 1 1 ≡ 3_652_791
first_day = day_count-early (pos 1) 10000 1 1 refl (omega arith) (omega arith) (omega arith)

-- a day from then on is of such a year
pub year_from : (year month day : ℕ) → IsCivilDate (pos year) month day
    → neg_ℤ (pos 719162) ≤ℤ days_from_civil (pos year) month day → 1 ≤ year
year_from zero month day real low =
    let below : pos 0 <ℤ pos 1 = omega (arith, ints) in
    let before = day_count-lt_year (pos 0) month day (pos 1) 1 1 real (omega arith) below in
    absurd (omega (arith, signed_arith, first_day, days_from_civil-day_count (pos 0) month day))
year_from (suc year) month day real low = omega arith

year_to : (year month day : ℕ) → IsCivilDate (pos year) month day → year < 10 ^ 4
year_to year month day real = omega (arith, ints, real.0.1)

-- the parts of what is written for a time in UTC
utc_parts : Utc → ℕ → TimestampParts
utc_parts u nanos = record {
  year = padded 4 u.year;
  month = padded 2 u.month;
  day = padded 2 u.day;
  hour = padded 2 (u.clock / 3600);
  minute = padded 2 (u.clock % 3600 / 60);
  second = padded 2 (u.clock % 60);
  fraction = fraction_text nanos;
  zone = None;
}

-- its numbers
utc_civil : Utc → ℕ → Civil
utc_civil u nanos = record {
  year = u.year;
  month = u.month;
  day = u.day;
  hour = u.clock / 3600;
  minute = u.clock % 3600 / 60;
  second = u.clock % 60;
  nanos = nanos;
  zone = record { is_behind = false; hours = 0; minutes = 0 };
}

same_civil : (y y' mo mo' d d' h h' mi mi' s s' n n' : ℕ) (z : Zone)
    → y ≡ y' → mo ≡ mo' → d ≡ d' → h ≡ h' → mi ≡ mi' → s ≡ s' → n ≡ n'
    → ◌≡◌ {A = Civil} (record { year = y; month = mo; day = d; hour = h; minute = mi; second = s; nanos = n; zone = z })
    (record { year = y'; month = mo'; day = d'; hour = h'; minute = mi'; second = s'; nanos = n'; zone = z })
same_civil y y' mo mo' d d' h h' mi mi' s s' n n' z e₁ e₂ e₃ e₄ e₅ e₆ e₇ = cc

numbers_are : (u : Utc) (nanos : ℕ) → IsCivilDate (pos u.year) u.month u.day → u.clock < 86400 → nanos < 1_000_000_000
    → civil_of (utc_parts u nanos) ≡ utc_civil u nanos
unfolding utc_parts utc_civil
numbers_are u nanos real clock small =
    let month = days_in_month_bounds (pos u.year) u.month in
    same_civil _ u.year _ u.month _ u.day _ (u.clock / 3600) _ (u.clock % 3600 / 60) _ (u.clock % 60) _ nanos
    (record { is_behind = false; hours = 0; minutes = 0 })
    (padded_value 4 u.year (year_to u.year u.month u.day real))
    (padded_value 2 u.month (omega (arith, real.1.1)))
    (padded_value 2 u.day (omega (arith, real.2.1, month.0)))
    (padded_value 2 (u.clock / 3600) (omega arith))
    (padded_value 2 (u.clock % 3600 / 60) (omega arith))
    (padded_value 2 (u.clock % 60) (omega arith))
    (written_nanos nanos small)

-- a clock that is cut into hours, minutes and seconds
clock_is : (n : ℕ) → n / 3600 * 3600 + n % 3600 / 60 * 60 + n % 60 ≡ n
clock_is n = omega arith

instant_is : (u : Utc) (nanos : ℕ) (s : ℤ)
    → s ≡ days_from_civil (pos u.year) u.month u.day *ℤ pos 86400 +ℤ pos u.clock → s ≡ instant (utc_civil u nanos)
unfolding utc_civil
instant_is u nanos s e =
    e ∙ ap (λ n. days_from_civil (pos u.year) u.month u.day *ℤ pos 86400 +ℤ pos n) (sym (clock_is u.clock))
    ∙ none (days_from_civil (pos u.year) u.month u.day *ℤ pos 86400
    +ℤ pos (u.clock / 3600 * 3600 + u.clock % 3600 / 60 * 60 + u.clock % 60))
  where
    none : (z : ℤ) → z ≡ z -ℤ pos 0
    none z = omega (arith, ints)

-- a number that is not negative is its size
pub size_is : (z : ℤ) → pos 0 ≤ℤ z → z ≡ pos (unsigned_abs z)
size_is (pos n) h = refl
size_is (negsuc n) h = absurd (omega (arith, ints, h))

size_below : (z : ℤ) → z ≤ℤ pos 999_999_999 → pos 0 ≤ℤ z → unsigned_abs z < 1_000_000_000
size_below (pos n) h k = omega (arith, ints, h)
size_below (negsuc n) h k = absurd (omega (arith, ints, k))

day_from : (s d : ℤ) (clock : ℕ) → neg_ℤ (pos 62_135_596_800) ≤ℤ s → clock < 86400 → s ≡ d *ℤ pos 86400 +ℤ pos clock
    → neg_ℤ (pos 719162) ≤ℤ d
day_from s d clock low small e = omega (arith, signed_arith, low, e)

-- what is written for an instant means it
pub shown_timestamp : (m : Moment) (text : List ℕ) → IsPrintableTimestamp m → IsTimestampShown m text
    → MeansTimestamp text m
unfolding utc_parts utc_civil
shown_timestamp m text fits shown =
    let u = shown.utc in
    let nanos : ℕ = unsigned_abs m.nanos in
    let real = shown.utc_is.real in
    let small : nanos < 1_000_000_000 = size_below m.nanos fits.nanos_to fits.nanos_from in
    let same : civil_of (utc_parts u nanos) ≡ utc_civil u nanos =
    numbers_are u nanos real shown.utc_is.clock_in small in
    let at : m.seconds ≡ instant (utc_civil u nanos) = instant_is u nanos m.seconds shown.utc_is.seconds_are in
    let year : 1 ≤ u.year = year_from u.year u.month u.day real
    (day_from m.seconds (days_from_civil (pos u.year) u.month u.day) u.clock fits.seconds.from shown.utc_is.clock_in
    shown.utc_is.seconds_are) in
    record {
      parts = utc_parts u nanos;
      written = record {
        text_is = shown.text_is ∙ grouped (padded 4 u.year) (45 ∷ padded 2 u.month) (45 ∷ padded 2 u.day)
            (84 ∷ padded 2 (u.clock / 3600)) (58 ∷ padded 2 (u.clock % 3600 / 60)) (58 ∷ padded 2 (u.clock % 60))
            (fraction_text nanos ++ codes "Z");
        form = and_from _ _ (and_from _ _ (padded_are 4 u.year) (and_from _ _ (padded_are 2 u.month)
            (and_from _ _ (padded_are 2 u.day) (and_from _ _ (padded_are 2 (u.clock / 3600))
            (and_from _ _ (padded_are 2 (u.clock % 3600 / 60)) (padded_are 2 (u.clock % 60)))))))
            (and_from _ _ (written_is_fraction nanos) refl);
        real = subst IsRealCivil (sym same) (record {
          date = real;
          clock = record {
            hour = hour u.clock shown.utc_is.clock_in;
            minute = minute u.clock;
            second = second u.clock;
            zone_hours = omega arith;
            zone_minutes = omega arith;
          };
        });
      };
      in_range = subst IsTimestampRange (sym same) (record {
        year = year;
        seconds = subst IsTimestampSeconds at fits.seconds;
      });
      moment_is = ap₂ (λ x y. record { seconds = x; nanos = y }) at (size_is m.nanos fits.nanos_from)
          ∙ ap civil_moment (sym same);
    }
  where
    hour : (n : ℕ) → n < 86400 → n / 3600 ≤ 23
    hour n h = omega arith

    minute : (n : ℕ) → n % 3600 / 60 ≤ 59
    minute n = omega arith

    second : (n : ℕ) → n % 60 ≤ 59
    second n = omega arith

    grouped : (a b c d e f r : List ℕ)
        → (a ++ (b ++ c)) ++ ((d ++ (e ++ f)) ++ r) ≡ (a ++ (b ++ (c ++ (d ++ (e ++ f))))) ++ r
    grouped a b c d e f r = simp append_assoc

-- a date from then on
year_after : (d : Date) → neg_ℤ (pos 719162) ≤ℤ epoch_day d → pos 1 ≤ℤ d.year
year_after d low =
    by_lt_z d.year (pos 1)
    (λ (below : d.year <ℤ pos 1). absurd (omega (
      arith,
      signed_arith,
      low,
      first_day,
      days_from_civil-day_count d.year d.month d.day,
      day_count-lt_year d.year d.month d.day (pos 1) 1 1 (civil d) (omega arith) below,
    )))
    (λ (le : pos 1 ≤ℤ d.year). le)

pos_size : (z : ℤ) → pos 1 ≤ℤ z → pos (unsigned_abs z) ≡ z
pos_size (pos n) h = refl
pos_size (negsuc n) h = absurd (omega (arith, ints, h))

-- the day of a date
pub utc_day : (d : Date) (y : ℕ) (day : ℤ) (clock : ℕ) → y ≡ unsigned_abs d.year → epoch_day d ≡ day
    → neg_ℤ (pos 719162) ≤ℤ day → IsDayOf day (record { year = y; month = d.month; day = d.day; clock = clock })
utc_day d y day clock size number low =
    let from : neg_ℤ (pos 719162) ≤ℤ epoch_day d = subst (λ z. neg_ℤ (pos 719162) ≤ℤ z) (sym number) low in
    let year : pos y ≡ d.year = ap pos size ∙ pos_size d.year (year_after d from) in
    record {
      real = subst (λ z. IsCivilDate z d.month d.day) (sym year) (civil d);
      number_is = ap (λ z. days_from_civil z d.month d.day) year ∙ number;
    }

-- what was appended is the text of an instant
pub appended : {E : Type 0} (m : Moment) (u : Utc) (n : ℕ) (old new : List ℕ) (r : Result (Unit {0}) E)
    → IsUtcOf m.seconds u → n ≡ unsigned_abs m.nanos → OnOk r (new ≡ old ++ utc_text u n)
    → OnOk r (AppendsTimestamp m old new)
appended m u n old new (Ok x) is size h = record {
  text = utc_text u n;
  shown = record { utc = u; utc_is = is; text_is = ap (utc_text u) size };
  appended = h;
}
appended m u n old new (Err e) is size h = tt

-- what was appended is the text of a duration
pub appended_duration : {E : Type 0} (m : Moment) (b : Bool) (s n : ℕ) (old new : List ℕ) (r : Result (Unit {0}) E)
    → b ≡ (is_negative m.seconds || is_negative m.nanos) → s ≡ unsigned_abs m.seconds → n ≡ unsigned_abs m.nanos
    → OnOk r (new ≡ old ++ signed_text b s n) → OnOk r (new ≡ old ++ duration_text m)
appended_duration m b s n old new r e₁ e₂ e₃ h =
    subst (λ (t : List ℕ). OnOk r (new ≡ old ++ t))
    (ap (λ (x : Bool). signed_text x s n) e₁
    ∙ ap (λ (x : ℕ). signed_text (is_negative m.seconds || is_negative m.nanos) x n) e₂
    ∙ ap (λ (x : ℕ). signed_text (is_negative m.seconds || is_negative m.nanos) (unsigned_abs m.seconds) x) e₃)
    h
