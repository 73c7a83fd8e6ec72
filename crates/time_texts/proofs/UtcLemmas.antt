-- The text that one computes for an instant is the one that is written.
use Rattle.std.proofs.Common.{◌≡◌, ℕ, zero, suc, ◌+◌, ◌-◌, ◌*◌, ◌/◌, ◌%◌, ◌<◌, ◌≤◌, Bool, true, false, cond, List, refl, sym, ap, ap₂, subst, ◌∙◌, arith, ⊎_elim}
use Rattle.std.specs.Prelude.{nat_le, ℤ, pos, neg_ℤ, unsigned_abs, ◌+ℤ◌, ◌-ℤ◌, ◌*ℤ◌, ◌≤ℤ◌}
use Rattle.std.proofs.lemmas.Bool.{cases_lt}
use Rattle.std.proofs.lemmas.Bool.Decides.{nat_tests}
use Rattle.jiff_core.proofs.CalendarLemmas.{day_count-end, day_of_year_bound, days_from_civil-day_count, days_of_months-zero, days_of_months_all, days_of_months_more, days_of_months_mono}
use Rattle.jiff_core.proofs.MarchLemmas.{days_of_years-suc}
use Rattle.jiff_core.proofs.SignedLemmas.{signed_arith}
use Rattle.jiff_core.specs.Calendar.{IsCivilDate, day_count, day_of_year, days_from_civil, days_in_year, days_of_months, days_of_years}
use Rattle.time_texts.specs.TimestampTexts.{IsUtcOf, IsTimestampShown, IsTimestampSeconds, IsPrintableTimestamp, utc_text}
use Rattle.time_texts.specs.UtcTimes.{last_within, month_index, timestamp_text, utc_after, utc_at_count, year_index}
use Rattle.time_texts.specs.declared.moment.Moment.{Moment}
use Rattle.time_texts.specs.declared.timestamp.Utc.{Utc}
use Rattle.time_texts.proofs.ShownLemmas.{first_day, size_is}
use borrow.Author.Differences.{up, down}

-- the last number is found where values rise
pub last_is : (f : ℕ → ℕ) (n k x : ℕ) → ((i j : ℕ) → i ≤ j → f i ≤ f j) → k ≤ n → f k ≤ x → x < f (suc k)
    → last_within f n x ≡ k
unfolding last_within
last_is f zero k x rises within low high = omega arith
last_is f (suc n) k x rises within low high = ⊎_elim
    (λ (past : k < suc n). ap (λ t. cond t (suc n) (last_within f n x))
    (too_late (f (suc n)) x (omega (arith, rises (suc k) (suc n) (omega arith))))
    ∙ last_is f n k x rises (omega arith) low high)
    (λ (at : suc n ≤ k). let same : suc n ≡ k = omega arith in
    ap (λ t. cond t (suc n) (last_within f n x)) (in_time (f (suc n)) x (subst (λ i. f i ≤ x) (sym same) low)) ∙ same)
    (cases_lt k (suc n))
  where
    too_late : (a b : ℕ) → b < a → nat_le a b ≡ false
    too_late a b h = grind (arith, nat_tests)

    in_time : (a b : ℕ) → a ≤ b → nat_le a b ≡ true
    in_time a b h = grind (arith, nat_tests)

-- days of years rise
years_add : (k i : ℕ) → days_of_years i ≤ days_of_years (k + i)
years_add zero i = let e : zero + i ≡ i = omega arith in rw e (omega arith)
years_add (suc k) i =
    let e : suc k + i ≡ suc (k + i) = omega arith in
    rw e (omega (arith, years_add k i, days_of_years-suc (k + i)))

years_rise : (i j : ℕ) → i ≤ j → days_of_years i ≤ days_of_years j
years_rise i j h =
    let e : j - i + i ≡ j = omega arith in
    subst (λ n. days_of_years i ≤ days_of_years n) e (years_add (j - i) i)

year_more : (y : ℕ) → days_of_years (suc (y + 10_000)) ≡ days_of_years (y + 10_000) + days_in_year (pos y)
unfolding days_of_years
year_more y = let e : pos (y + 10_000) -ℤ pos 10_000 ≡ pos y = omega (arith, signed_arith) in
    ap (λ z. days_of_years (y + 10_000) + days_in_year z) e

count_is : (y m d : ℕ) → day_count (pos y) m d ≡ days_of_years (y + 10_000) + (day_of_year (pos y) m d - 1)
unfolding day_count
count_is y m d = refl

-- a date is found by its day count
pub date_found : (y m d clock : ℕ) → IsCivilDate (pos y) m d → y < 10_000
    → utc_at_count (day_count (pos y) m d) clock ≡ record { year = y; month = m; day = d; clock = clock }
date_found y m d clock real small =
    let count : ℕ = day_count (pos y) m d in
    let n : ℕ = y + 10_000 in
    let bound = day_of_year_bound (pos y) m d real in
    let step = days_of_months_more (pos y) m real.1.0 in
    let whole = count_is y m d in
    let rest : ℕ = days_of_months (pos y) (m - 1) + d - 1 in
    let at_year : year_index count ≡ n =
    last_is days_of_years 19_999 n count years_rise (omega arith) (omega (arith, whole))
    (omega (arith, whole, bound, year_more y, real.2.0)) in
    let year : year_index count - 10_000 ≡ y = omega (arith, at_year) in
    let rest_is : count - days_of_years (year_index count) ≡ rest =
    ap (λ k. count - days_of_years k) at_year ∙ omega (arith, whole, real.2.0) in
    let back : suc (m - 1) ≡ m = omega (arith, real.1.0) in
    let months : month_index y rest ≡ m - 1 =
    last_is (days_of_months (pos y)) 11 (m - 1) rest (λ i j. days_of_months_mono (pos y) i j) (omega (arith, real.1.1))
    (omega (arith, real.2.0))
    (subst (λ k. rest < days_of_months (pos y) k) (sym back) (omega (arith, step, real.2.0, real.2.1))) in
    let month : month_index (year_index count - 10_000) (count - days_of_years (year_index count)) ≡ m - 1 =
    ap₂ (λ a b. month_index a b) year rest_is ∙ months in
    built (year_index count - 10_000) y
    (month_index (year_index count - 10_000) (count - days_of_years (year_index count))) m
    (count - days_of_years (year_index count)) rest d clock year month rest_is (omega (arith, real.1.0))
    (omega (arith, real.2.0))
  where
    built : (a y i m r rest d clock : ℕ) → a ≡ y → i ≡ m - 1 → r ≡ rest → m - 1 + 1 ≡ m
        → rest - days_of_months (pos y) (m - 1) + 1 ≡ d
        → ◌≡◌ {A = Utc} (record { year = a; month = i + 1; day = r - days_of_months (pos a) i + 1; clock = clock })
        (record { year = y; month = m; day = d; clock = clock })
    built a y i m r rest d clock e₁ e₂ e₃ e₄ e₅ = cc

size_of : (s : ℤ) (n : ℕ) → s +ℤ pos 62_135_596_800 ≡ pos n → unsigned_abs (s +ℤ pos 62_135_596_800) ≡ n
size_of s n e = ap unsigned_abs e

-- the time in UTC that one computes
utc_found : (s : ℤ) (u : Utc) → neg_ℤ (pos 62_135_596_800) ≤ℤ s → IsUtcOf s u
    → utc_after (unsigned_abs (s +ℤ pos 62_135_596_800)) ≡ u
utc_found s u low is =
    let count : ℕ = day_count (pos u.year) u.month u.day in
    let days = days_from_civil-day_count (pos u.year) u.month u.day in
    let n : ℕ = (count - 3_652_791) * 86_400 + u.clock in
    let total : s +ℤ pos 62_135_596_800 ≡ pos n = omega (arith, signed_arith, low, is.seconds_are, days, is.clock_in) in
    let size = size_of s n total in
    let later : 3_652_791 ≤ count = omega (arith, signed_arith, low, is.seconds_are, days, is.clock_in) in
    ap utc_after size
    ∙ ap₂ (λ a b. utc_at_count a b) (day_at count u.clock later is.clock_in) (clock_at count u.clock is.clock_in)
    ∙ date_found u.year u.month u.day u.clock is.real (year_small u.year u.month u.day is.real)
  where
    day_at : (c k : ℕ) → 3_652_791 ≤ c → k < 86_400 → ((c - 3_652_791) * 86_400 + k) / 86_400 + 3_652_791 ≡ c
    day_at c k h l = omega arith

    clock_at : (c k : ℕ) → k < 86_400 → ((c - 3_652_791) * 86_400 + k) % 86_400 ≡ k
    clock_at c k l = omega arith

    year_small : (y m d : ℕ) → IsCivilDate (pos y) m d → y < 10_000
    year_small y m d real = omega (arith, signed_arith, real.0.1)

-- and its text
pub text_found : (m : Moment) (text : List ℕ) → IsPrintableTimestamp m → IsTimestampShown m text
    → text ≡ timestamp_text m
text_found m text fits shown =
    shown.text_is
    ∙ ap (λ u. utc_text u (unsigned_abs m.nanos)) (sym (utc_found m.seconds shown.utc fits.seconds.from shown.utc_is))

-- the next value behind the last number at which values are at most x is past x
last_found : (f : ℕ → ℕ) (n x : ℕ) → f 0 ≤ x → x < f (suc n)
    → (f (last_within f n x) ≤ x) × (x < f (suc (last_within f n x))) × (last_within f n x ≤ n)
unfolding last_within
last_found f zero x low high = (low, high, omega arith)
last_found f (suc n) x low high = choice (nat_le (f (suc n)) x) refl (λ (h : x < f (suc n)). last_found f n x low h)
  where
    told : (a b : ℕ) → nat_le a b ≡ true → a ≤ b
    told a b e = grind (arith, nat_tests)

    refused : (a b : ℕ) → nat_le a b ≡ false → b < a
    refused a b e = grind (arith, nat_tests)

    choice : (t : Bool) → nat_le (f (suc n)) x ≡ t
        → (x < f (suc n) → (f (last_within f n x) ≤ x) × (x < f (suc (last_within f n x))) × (last_within f n x ≤ n))
        → (f (cond t (suc n) (last_within f n x)) ≤ x) × (x < f (suc (cond t (suc n) (last_within f n x))))
        × (cond t (suc n) (last_within f n x) ≤ suc n)
    choice true e before = (told (f (suc n)) x e, high, omega arith)
    choice false e before =
        let k = before (refused (f (suc n)) x e) in
        let within : last_within f n x ≤ n = k.2 in
        (k.0, k.1, omega arith)

-- a year begins at its first day
first_of_year : (y : ℕ) → day_count (pos y) 1 1 ≡ days_of_years (y + 10_000)
first_of_year y = omega (arith, count_is y 1 1, days_of_months-zero (pos y))

-- the year of a day from the year 1 on
year_of : (count : ℕ) → 3_652_791 ≤ count → count < 7_304_850
    → (10_001 ≤ year_index count) × (year_index count ≤ 19_999) × (days_of_years (year_index count) ≤ count)
    × (count < days_of_years (suc (year_index count)))
year_of count low high =
    let first : days_of_years 10_001 ≡ 3_652_791 = sym (first_of_year 1) ∙ first_day in
    let end : days_of_years 20_000 ≡ 7_304_850 = sym (first_of_year 10_000) ∙ day_count-end in
    let found = last_found days_of_years 19_999 count
    (omega (arith, first, low, years_rise 0 10_001 (omega arith))) (omega (arith, end, high)) in
    (past (year_index count) first found.1, found.2, found.0, found.1)
  where
    past : (n : ℕ) → days_of_years 10_001 ≡ 3_652_791 → count < days_of_years (suc n) → 10_001 ≤ n
    past n first next = ⊎_elim
        (λ (before : n < 10_001). absurd (omega (arith, first, next, low, years_rise (suc n) 10_001 (omega arith))))
        (λ (le : 10_001 ≤ n). le)
        (cases_lt n 10_001)

-- a place in a year is a day of the month that begins last before it
month_of : (y rest : ℕ) → y ≤ 9_999 → rest < days_in_year (pos y)
    → IsCivilDate (pos y) (month_index y rest + 1) (rest - days_of_months (pos y) (month_index y rest) + 1)
    × (day_of_year (pos y) (month_index y rest + 1) (rest - days_of_months (pos y) (month_index y rest) + 1) ≡ rest + 1)
month_of y rest small within =
    let found = last_found (days_of_months (pos y)) 11 rest (omega (arith, days_of_months-zero (pos y)))
    (omega (arith, days_of_months_all (pos y), within)) in
    at (month_index y rest) found.0 found.1 found.2
  where
    year_from : neg_ℤ (pos 9_999) ≤ℤ pos y
    year_from = omega (arith, signed_arith)

    year_to : pos y ≤ℤ pos 9_999
    year_to = omega (arith, signed_arith, small)

    at : (i : ℕ) → days_of_months (pos y) i ≤ rest → rest < days_of_months (pos y) (suc i) → i ≤ 11
        → IsCivilDate (pos y) (i + 1) (rest - days_of_months (pos y) i + 1)
        × (day_of_year (pos y) (i + 1) (rest - days_of_months (pos y) i + 1) ≡ rest + 1)
    at i low high few =
        let back : i + 1 - 1 ≡ i = omega arith in
        let same : suc i ≡ i + 1 = omega arith in
        let next = ap (days_of_months (pos y)) same in
        let more = days_of_months_more (pos y) (i + 1) (omega arith) in
        let before = ap (days_of_months (pos y)) back in (
          (
            (year_from, year_to),
            (omega arith, omega (arith, few)),
            (omega arith, omega (arith, low, high, next, more, before)),
          ),
          omega (arith, low, before),
        )

-- the date that one computes is of the day
date_of_count : (count clock : ℕ) → 3_652_791 ≤ count → count < 7_304_850
    → IsCivilDate (pos (utc_at_count count clock).year) (utc_at_count count clock).month (utc_at_count count clock).day
    × (day_count (pos (utc_at_count count clock).year) (utc_at_count count clock).month (utc_at_count count clock).day
    ≡ count)
date_of_count count clock low high =
    let found = year_of count low high in
    at (year_index count) found.0 found.1 found.2 found.3
  where
    at : (n : ℕ) → 10_001 ≤ n → n ≤ 19_999 → days_of_years n ≤ count → count < days_of_years (suc n)
        → IsCivilDate (pos (n - 10_000)) (month_index (n - 10_000) (count - days_of_years n) + 1)
        (count - days_of_years n
        - days_of_months (pos (n - 10_000)) (month_index (n - 10_000) (count - days_of_years n)) + 1)
        × (day_count (pos (n - 10_000)) (month_index (n - 10_000) (count - days_of_years n) + 1)
        (count - days_of_years n
        - days_of_months (pos (n - 10_000)) (month_index (n - 10_000) (count - days_of_years n)) + 1)
        ≡ count)
    at n from to begins ends =
        let y : ℕ = n - 10_000 in
        let rest : ℕ = count - days_of_years n in
        let back : y + 10_000 ≡ n = omega (arith, from) in
        let begin : days_of_years (y + 10_000) ≡ days_of_years n = ap days_of_years back in
        let next : days_of_years (suc (y + 10_000)) ≡ days_of_years (suc n) = ap (λ k. days_of_years (suc k)) back in
        let month = month_of y rest (omega (arith, to)) (omega (arith, begins, ends, begin, next, year_more y)) in (
          month.0,
          omega (
            arith,
            begins,
            begin,
            month.1,
            count_is y (month_index y rest + 1) (rest - days_of_months (pos y) (month_index y rest) + 1),
          ),
        )

-- the time in UTC that one computes is that of the seconds
utc_is_after : (s : ℤ) → IsTimestampSeconds s → IsUtcOf s (utc_after (unsigned_abs (s +ℤ pos 62_135_596_800)))
utc_is_after s fits =
    let k : ℕ = unsigned_abs (s +ℤ pos 62_135_596_800) in
    let total : s +ℤ pos 62_135_596_800 ≡ pos k = size_is (s +ℤ pos 62_135_596_800) (since s fits.from) in
    let date = date_of_count (k / 86_400 + 3_652_791) (k % 86_400) (omega arith) (until s k total fits.to) in
    let u : Utc = utc_at_count (k / 86_400 + 3_652_791) (k % 86_400) in
    record {
      real = date.0;
      clock_in = of_day k;
      seconds_are = counted s (days_from_civil (pos u.year) u.month u.day) k (day_count (pos u.year) u.month u.day)
          total (days_from_civil-day_count (pos u.year) u.month u.day) date.1;
    }
  where
    since : (s : ℤ) → neg_ℤ (pos 62_135_596_800) ≤ℤ s → pos 0 ≤ℤ (s +ℤ pos 62_135_596_800)
    since s h = omega (arith, signed_arith, h)

    until : (s : ℤ) (k : ℕ) → s +ℤ pos 62_135_596_800 ≡ pos k → s ≤ℤ pos 253_402_300_799
        → k / 86_400 + 3_652_791 < 7_304_850
    until s k e h = omega (arith, signed_arith, e, h)

    of_day : (k : ℕ) → k % 86_400 < 86_400
    of_day k = omega arith

    counted : (s day : ℤ) (k count : ℕ) → s +ℤ pos 62_135_596_800 ≡ pos k → up day + 4_371_953 ≡ down day + count
        → count ≡ k / 86_400 + 3_652_791 → s ≡ day *ℤ pos 86_400 +ℤ pos (k % 86_400)
    counted s day k count e f g = omega (arith, signed_arith, e, f, g)

-- and its text is what is written
pub instant_shown : (m : Moment) → IsPrintableTimestamp m → IsTimestampShown m (timestamp_text m)
instant_shown m fits = record {
  utc = utc_after (unsigned_abs (m.seconds +ℤ pos 62_135_596_800));
  utc_is = utc_is_after m.seconds fits.seconds;
  text_is = refl;
}
