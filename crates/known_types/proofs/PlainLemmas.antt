-- Each byte of a text that is written for a well-known type is plain.
use Rattle.std.proofs.Common.{◌≡◌, ◌∙◌, ◌<◌, ◌≤◌, ◌^◌, ◌+◌, ◌/◌, ◌%◌, ◌++◌, ◌||◌, sym, ap, subst, refl, arith, cond, ℕ, zero, suc, Bool, true, false, List, [], ◌∷◌, Option, Some, None}
use Rattle.std.specs.Prelude.{◌==◌, codes, decimal, nat_le, option_and_then, pos, unsigned_abs, ◌+ℤ◌}
use Rattle.std.specs.Int.{is_negative}
use Rattle.std.specs.List.{list_all}
use Rattle.std.specs.Str.Parse.{AllDigits}
use Rattle.std.proofs.lemmas.Bool.{and_from, and_parts}
use Rattle.std.proofs.lemmas.Bool.Decides.{nat_tests}
use Rattle.std.proofs.lemmas.Fmt.{decimal_is_IsNumeral}
use Rattle.std.proofs.lemmas.List.Folds.{list_all-append}
use Rattle.std.proofs.lemmas.Str.Parse.{digit_from_value}
use Rattle.known_types.specs.KnownTexts.{instant_text, is_plain_byte, length_text, paths_text}
use Rattle.mask_texts.specs.MaskItems.{item_paths}
use Rattle.mask_texts.specs.MaskTexts.{is_written_byte, mask_text}
use Rattle.schema.specs.declared.value.Item.{Item}
use Rattle.time_texts.specs.Digits.{padded}
use Rattle.time_texts.specs.DurationTexts.{duration_text, signed_text}
use Rattle.time_texts.specs.Fractions.{fraction_text}
use Rattle.time_texts.specs.PrintableTimes.{is_printable_duration, is_printable_timestamp}
use Rattle.time_texts.specs.TimestampTexts.{clock_text, date_text, utc_text}
use Rattle.time_texts.specs.UtcTimes.{timestamp_text, utc_after}
use Rattle.time_texts.specs.declared.moment.Moment.{Moment}
use Rattle.time_texts.specs.declared.timestamp.Utc.{Utc}

-- each byte is plain
abbrev pub IsPlain : List ℕ → Type 0
IsPlain t = list_all is_plain_byte t ≡ true

-- so are the bytes of two texts
plain_append : (s t : List ℕ) → IsPlain s → IsPlain t → IsPlain (s ++ t)
plain_append s t p q = list_all-append is_plain_byte s t ∙ and_from _ _ p q

plain_cons : (b : ℕ) (t : List ℕ) → is_plain_byte b ≡ true → IsPlain t → IsPlain (b ∷ t)
plain_cons b t p q = and_from _ _ p q

plain_cond : (b : Bool) (s t : List ℕ) → IsPlain s → IsPlain t → IsPlain (cond b s t)
plain_cond true s t p q = p
plain_cond false s t p q = q

plain_between : (b : ℕ) → 48 ≤ b → b ≤ 57 → is_plain_byte b ≡ true
plain_between b low high = grind (arith, nat_tests)

plain_digit : (n : ℕ) → is_plain_byte (48 + n % 10) ≡ true
plain_digit n = plain_between (48 + n % 10) (omega arith) (omega arith)

plain_padded : (k n : ℕ) → IsPlain (padded k n)
plain_padded zero n = refl
plain_padded (suc k) n =
    plain_append (padded k (n / 10)) ((48 + n % 10) ∷ []) (plain_padded k (n / 10))
    (plain_cons (48 + n % 10) [] (plain_digit n) refl)

plain_fraction : (n : ℕ) → IsPlain (fraction_text n)
plain_fraction n =
    plain_cond (n == 0) [] _ refl
    (plain_cond (n % 1_000_000 == 0) (46 ∷ padded 3 (n / 1_000_000)) _ (plain_padded 3 (n / 1_000_000))
    (plain_cond (n % 1_000 == 0) (46 ∷ padded 6 (n / 1_000)) (46 ∷ padded 9 n) (plain_padded 6 (n / 1_000))
    (plain_padded 9 n)))

plain_date : (y m d : ℕ) → IsPlain (date_text y m d)
plain_date y m d =
    plain_append (padded 4 y) (45 ∷ padded 2 m ++ 45 ∷ padded 2 d) (plain_padded 4 y)
    (plain_append (padded 2 m) (45 ∷ padded 2 d) (plain_padded 2 m) (plain_padded 2 d))

plain_clock : (s : ℕ) → IsPlain (clock_text s)
plain_clock s =
    plain_append (padded 2 (s / 3600)) (58 ∷ padded 2 (s % 3600 / 60) ++ 58 ∷ padded 2 (s % 60))
    (plain_padded 2 (s / 3600))
    (plain_append (padded 2 (s % 3600 / 60)) (58 ∷ padded 2 (s % 60)) (plain_padded 2 (s % 3600 / 60))
    (plain_padded 2 (s % 60)))

plain_utc : (u : Utc) (n : ℕ) → IsPlain (utc_text u n)
plain_utc u n =
    plain_append (date_text u.year u.month u.day) (84 ∷ clock_text u.clock ++ (fraction_text n ++ codes "Z"))
    (plain_date u.year u.month u.day)
    (plain_append (clock_text u.clock) (fraction_text n ++ codes "Z") (plain_clock u.clock)
    (plain_append (fraction_text n) (codes "Z") (plain_fraction n) refl))

-- a text under a condition
some_plain : (b : Bool) (x t : List ℕ) → (b ≡ true → IsPlain x) → cond b (Some x) None ≡ Some t → IsPlain t
some_plain true x t p h = let e : x ≡ t = cc in subst IsPlain e (p refl)
some_plain false x t p h = absurd cc

-- the text of an instant is plain
pub instant_plain : (m : Moment) (t : List ℕ) → instant_text m ≡ Some t → IsPlain t
instant_plain m t h =
    some_plain (is_printable_timestamp m) (timestamp_text m) t
    (λ _. plain_utc (utc_after (unsigned_abs (m.seconds +ℤ pos 62_135_596_800))) (unsigned_abs m.nanos)) h

plain_digits : (ds : List ℕ) → AllDigits 10 ds → IsPlain ds
plain_digits [] h = refl
plain_digits (d ∷ ds) h =
    let range = digit_from_value d h.0 in
    plain_cons d ds (plain_between d (omega (arith, range)) (omega (arith, range))) (plain_digits ds h.1)

plain_decimal : (n : ℕ) → n < 2 ^ 64 → IsPlain (decimal n)
plain_decimal n h = plain_digits (decimal n) (decimal_is_IsNumeral n h).0.1

plain_signed : (b : Bool) (s n : ℕ) → s < 2 ^ 64 → IsPlain (signed_text b s n)
plain_signed b s n h =
    plain_append (cond b (codes "-") []) _ (plain_cond b (codes "-") [] refl refl)
    (plain_append (decimal s) _ (plain_decimal s h)
    (plain_append (fraction_text n) (codes "s") (plain_fraction n) refl))

few : (n : ℕ) → nat_le n 315_576_000_000 ≡ true → n < 2 ^ 64
few n h = grind (arith, nat_tests)

-- so is that of a duration
pub length_plain : (m : Moment) (t : List ℕ) → length_text m ≡ Some t → IsPlain t
length_plain m t h =
    some_plain (is_printable_duration m) (duration_text m) t
    (λ p. plain_signed (is_negative m.seconds || is_negative m.nanos) (unsigned_abs m.seconds) (unsigned_abs m.nanos)
    (few (unsigned_abs m.seconds) (and_parts _ _ p).0)) h

plain_written : (b : ℕ) → is_written_byte b ≡ true → is_plain_byte b ≡ true
plain_written b h = grind (arith, nat_tests)

plain_bytes : (t : List ℕ) → list_all is_written_byte t ≡ true → IsPlain t
plain_bytes [] h = refl
plain_bytes (b ∷ t) h =
    let k = and_parts _ _ h in plain_cons b t (plain_written b k.0) (plain_bytes t k.1)

-- and that of a mask
pub mask_plain : (o : Option (List Item)) (t : List ℕ)
    → ((ps : List (List ℕ)) → mask_text ps ≡ Some t → list_all is_written_byte t ≡ true)
    → option_and_then paths_text o ≡ Some t → IsPlain t
mask_plain None t written h = absurd cc
mask_plain (Some is) t written h = plain_bytes t (written (item_paths is) h)
