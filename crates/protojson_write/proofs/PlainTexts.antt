-- Texts that stand in quotes as they are: printable ASCII without quotation marks and reverse solidi.
use Rattle.std.proofs.Common.{◌≡◌, ◌≢◌, ◌∙◌, ◌<◌, ◌≤◌, ◌||◌, ◌&&◌, ◌==◌, sym, ap, ap₂, subst, refl, arith, cond, ℕ, zero, suc, Bool, true, false, List, [], ◌∷◌, ◌++◌}
use Rattle.std.specs.Prelude.{◌^◌, ℤ, pos, negsuc, decimal, nat_abs, nat_le}
use Rattle.std.specs.Fmt.{signed_decimal}
use Rattle.std.specs.List.{AllByRecursion, list_all, list_any}
use Rattle.std.specs.Str.{IsAscii, IsUtf8}
use Rattle.std.specs.Str.Parse.{AllDigits}
use Rattle.std.proofs.lemmas.Bool.{and_parts}
use Rattle.std.proofs.lemmas.Bool.Decides.{nat_tests}
use Rattle.std.proofs.lemmas.Fmt.{decimal_is_IsNumeral}
use Rattle.std.proofs.lemmas.Str.{IsUtf8-from_ascii}
use Rattle.std.proofs.lemmas.Str.Parse.{digit_from_value}
use Rattle.json_events.specs.JsonStrings.{IsString}
use Rattle.json_events.specs.StringOutput.{escape_of, escaped, json_string, must_escape}
use Rattle.known_types.specs.BytesTexts.{is_written_byte}
use Rattle.known_types.specs.KnownTexts.{is_plain_byte}
use Rattle.protojson_write.specs.ScalarOutput.{quoted}

-- a byte that stands for itself
pub record IsPlainByte (b : ℕ) : Type 0 where
  pub low : 32 ≤ b
  pub high : b < 128
  pub no_quotation_mark : b ≢ 34
  pub no_reverse_solidus : b ≢ 92

-- all do
abbrev pub ArePlain : List ℕ → Type 0
ArePlain t = AllByRecursion IsPlainByte t

plain_ascii : (t : List ℕ) → ArePlain t → IsAscii t
plain_ascii [] h i = omega arith
plain_ascii (b ∷ t) h zero = h.0.high
plain_ascii (b ∷ t) h (suc i) = plain_ascii t h.1 i

-- they are UTF-8
pub plain_is_utf8 : (t : List ℕ) → ArePlain t → IsUtf8 t
plain_is_utf8 t h = IsUtf8-from_ascii t (plain_ascii t h)

neither : (a b : Bool) → (a || b) ≡ false → (a ≡ false) × (b ≡ false)
neither true b h = absurd cc
neither false b h = (refl, h)

unescaped : (t : List ℕ) → list_any must_escape t ≡ false → escaped t ≡ t
unescaped [] h = refl
unescaped (b ∷ t) h =
    let parts = neither (must_escape b) (list_any must_escape t) h in
    ap₂ (λ xs ys. xs ++ ys) (ap (λ c. cond c (escape_of b) (b ∷ [])) parts.0) (unescaped t parts.1)

-- a text of which no byte must be escaped is, in quotes, a string that stands for it
pub unescaped_string : ((t : List ℕ) → IsUtf8 t → IsString t (json_string t)) → (t : List ℕ) → IsUtf8 t
    → list_any must_escape t ≡ false → IsString t (quoted t)
unescaped_string strings t utf8 h =
    subst (λ x. IsString t (34 ∷ (x ++ 34 ∷ []))) (unescaped t h) (strings t utf8)

plain_byte : (b : ℕ) → 32 ≤ b → b ≢ 34 → b ≢ 92 → must_escape b ≡ false
plain_byte b h q r = grind (arith, nat_tests)

plain_unescaped : (t : List ℕ) → ArePlain t → list_any must_escape t ≡ false
plain_unescaped [] h = refl
plain_unescaped (b ∷ t) h =
    ap₂ (λ x y. x || y) (plain_byte b h.0.low h.0.no_quotation_mark h.0.no_reverse_solidus) (plain_unescaped t h.1)

-- in quotes they are a string that stands for them
pub plain_string : ((t : List ℕ) → IsUtf8 t → IsString t (json_string t)) → (t : List ℕ) → ArePlain t
    → IsString t (quoted t)
plain_string strings t h = unescaped_string strings t (plain_is_utf8 t h) (plain_unescaped t h)

known_low : (b : ℕ) → is_plain_byte b ≡ true → 32 ≤ b
known_low b h = grind (arith, nat_tests)

known_high : (b : ℕ) → is_plain_byte b ≡ true → b < 128
known_high b h = grind (arith, nat_tests)

-- the texts of timestamps, durations and field masks do
pub known_plain : (t : List ℕ) → list_all is_plain_byte t ≡ true → ArePlain t
known_plain [] h = tt
known_plain (b ∷ t) h =
    let parts = and_parts (is_plain_byte b) (list_all is_plain_byte t) h in (
      record {
        low = known_low b parts.0;
        high = known_high b parts.0;
        no_quotation_mark = other b 34 parts.0 refl;
        no_reverse_solidus = other b 92 parts.0 refl;
      },
      known_plain t parts.1,
    )
  where
    other : (b n : ℕ) → is_plain_byte b ≡ true → is_plain_byte n ≡ false → b ≢ n
    other b n h none e = let f = subst (λ x. is_plain_byte x ≡ true) e h in absurd cc

digits_plain : (ds : List ℕ) → AllDigits 10 ds → ArePlain ds
digits_plain [] h = tt
digits_plain (d ∷ ds) h =
    let range = digit_from_value d h.0 in (
      record {
        low = omega (arith, range);
        high = omega (arith, range);
        no_quotation_mark = λ e. absurd (omega (arith, range, e));
        no_reverse_solidus = λ e. absurd (omega (arith, range, e));
      },
      digits_plain ds h.1,
    )

-- the digits of an integer do
pub integer_plain : (z : ℤ) → nat_abs z < 2 ^ 64 → ArePlain (signed_decimal z)
integer_plain (pos n) h = digits_plain (decimal n) (decimal_is_IsNumeral n h).0.1
integer_plain (negsuc n) h = (minus, digits_plain (decimal (suc n)) (decimal_is_IsNumeral (suc n) h).0.1)
  where
    minus : IsPlainByte 45
    minus = record {
      low = omega arith;
      high = omega arith;
      no_quotation_mark = λ e. absurd (omega (arith, e));
      no_reverse_solidus = λ e. absurd (omega (arith, e));
    }

symbol_low : (b : ℕ) → is_written_byte b ≡ true → 32 ≤ b
symbol_low b h = grind (arith, nat_tests)

symbol_high : (b : ℕ) → is_written_byte b ≡ true → b < 128
symbol_high b h = grind (arith, nat_tests)

-- a symbol is no byte that is none
symbol_is : (b n : ℕ) → is_written_byte b ≡ true → is_written_byte n ≡ false → b ≢ n
symbol_is b n h other e = let f = subst (λ x. is_written_byte x ≡ true) e h in absurd cc

-- the symbols of base64 do
pub symbols_plain : (t : List ℕ) → list_all is_written_byte t ≡ true → ArePlain t
symbols_plain [] h = tt
symbols_plain (b ∷ t) h =
    let parts = and_parts (is_written_byte b) (list_all is_written_byte t) h in (
      record {
        low = symbol_low b parts.0;
        high = symbol_high b parts.0;
        no_quotation_mark = symbol_is b 34 parts.0 refl;
        no_reverse_solidus = symbol_is b 92 parts.0 refl;
      },
      symbols_plain t parts.1,
    )
