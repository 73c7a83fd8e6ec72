-- The text of a string is UTF-8.
use Rattle.std.proofs.Common.{◌≡◌, ℕ, ◌<◌, ◌^◌, Bool, true, false, cond, eqb, List, [], ◌∷◌, map, Some, None, Option, refl, sym, subst, arith}
use Rattle.std.specs.Char.{IsScalar}
use Rattle.std.specs.List.{AllByRecursion}
use Rattle.std.specs.Str.{all_scalars, IsUtf8}
use Rattle.std.specs.Str.Parse.{digits_value}
use Rattle.std.proofs.Math.Utf8.{low_scalar}
use Rattle.std.proofs.lemmas.Bool.{and_from}
use Rattle.std.proofs.lemmas.Bool.Decides.{nat_tests}
use Rattle.std.proofs.lemmas.Int.Digits.{digits_value-lt}
use Rattle.json_events.specs.JsonStrings.{escaped_character, is_high_surrogate, is_low_surrogate, paired, Spelling, unescaped, short_escape, unicode_escape, surrogate_escapes, character_of, IsSpelling, AreCharacters, IsString}

-- one row of the table of short escapes, before the others
row : (b : Bool) (v x : ℕ) (o : Option ℕ) → v < 128 → (o ≡ Some x → x < 128) → cond b (Some v) o ≡ Some x → x < 128
row true v x o h k e = let same : v ≡ x = cc in omega arith
row false v x o h k e = k e

-- a short escape stands for a character of ASCII
pub short_ascii : (l x : ℕ) → escaped_character l ≡ Some x → x < 128
short_ascii l x =
    row (eqb l 34) 34 x _ (omega arith) (row (eqb l 92) 92 x _ (omega arith) (row (eqb l 47) 47 x _ (omega arith) (row (eqb l 98) 8 x _ (omega arith)
    (row (eqb l 102) 12 x _ (omega arith) (row (eqb l 110) 10 x _ (omega arith) (row (eqb l 114) 13 x _ (omega arith) (row (eqb l 116) 9 x None (omega arith) (λ e. absurd (cc)))))))))

-- a number of four digits that is no surrogate
unit_scalar : (u : ℕ) → u < 65536 → is_high_surrogate u ≡ false → is_low_surrogate u ≡ false → IsScalar u
unit_scalar u h high low = grind (arith, nat_tests)

-- the character of a pair
pub pair_scalar : (h l : ℕ) → is_high_surrogate h ≡ true → is_low_surrogate l ≡ true → IsScalar (paired h l)
pair_scalar h l high low = grind (arith, nat_tests)

-- each spelling is of a character
spelling_scalar : (s : Spelling) → IsSpelling s → IsScalar (character_of s)
spelling_scalar (unescaped c) h = h.scalar
spelling_scalar (short_escape l x) h = let small : x < 128 = short_ascii l x h in low_scalar x (omega arith)
spelling_scalar (unicode_escape ds) h =
    let below : digits_value 16 ds < 65536 = subst (λ n. digits_value 16 ds < 16 ^ n) h.0.0 (digits_value-lt 16 ds h.0.1) in
    unit_scalar (digits_value 16 ds) below h.1 h.2
spelling_scalar (surrogate_escapes hs ls) h = pair_scalar (digits_value 16 hs) (digits_value 16 ls) h.2 h.3

all_characters : (ss : List Spelling) → AllByRecursion IsSpelling ss → all_scalars (map character_of ss) ≡ true
all_characters [] h = refl
all_characters (s ∷ ss) h = and_from _ _ (spelling_scalar s h.0) (all_characters ss h.1)

-- a string stands for text
pub string_utf8 : (text bytes : List ℕ) → IsString text bytes → IsUtf8 text
string_utf8 text bytes s =
    let c : AreCharacters text s.inner = s.characters in
    (map character_of c.spellings, (all_characters c.spellings c.allowed, sym c.text_is))
