-- A step keeps that what is held of a word is UTF-8, but for a character that has not ended.
use Rattle.std.proofs.Common.{◌≡◌, ℕ, ◌+◌, ◌<◌, Bool, true, false, cond, eqb, List, [], ◌∷◌, ◌++◌, Option, Some, None, refl, subst, arith}
use Rattle.std.specs.Prelude.{⊤, option_map, slice_get}
use Rattle.std.specs.Str.{IsUtf8}
use Rattle.std.proofs.lemmas.Bool.Decides.{nat_tests}
use Rattle.std.proofs.lemmas.Str.{IsUtf8-append}
use Rattle.json_events.specs.declared.state.Name.{Name}
use Rattle.json_events.specs.declared.state.StringState.{StringState}
use Rattle.json_events.specs.declared.state.WordState.{WordState}
use Rattle.json_events.specs.declared.state.WordState.TheVariants.{Open, Close, Comma, Colon, Literal, Inside, Minus, Zero, Whole, Point, Fraction, Exponent, Sign, Power}
use Rattle.json_events.specs.JsonTree.{digits}
use Rattle.json_events.specs.JsonText.{spelling}
use Rattle.json_events.specs.StringSteps.{more_string, string_adds}
use Rattle.json_events.specs.WordSteps.{is_digit, is_e, is_sign, after_int, some_digit, letter, more_state, is_number, held_on, mark_of}
use Rattle.json_events.specs.WordStates.{IsOpen}
use Rattle.json_events.specs.HeldWords.{HoldsWord, HoldsAt}
use Rattle.json_events.proofs.texts.WordLemmas.{NumberAt, stays}
use Rattle.json_events.proofs.reading.HeldText.{NextHolds, text_holds, ascii_utf8}
use Rattle.json_events.proofs.reading.FeedLemmas.{open_mark}

abbrev SmallAt : ℕ → Option WordState → Type 0
SmallAt b None = ⊤
SmallAt b (Some l) = b < 128

small_if : (b : ℕ) (t : Bool) (x y : Option WordState) → (t ≡ true → b < 128) → SmallAt b y → SmallAt b (cond t x y)
small_if b true None y f h = tt
small_if b true (Some l) y f h = f refl
small_if b false x y f h = h

digit_small : (b : ℕ) → is_digit b ≡ true → b < 128
digit_small b h = grind (arith, nat_tests)

e_small : (b : ℕ) → is_e b ≡ true → b < 128
e_small b h = grind (arith, nat_tests)

sign_small : (b : ℕ) → is_sign b ≡ true → b < 128
sign_small b h = grind (arith, nat_tests)

is_small : (b n : ℕ) → n < 128 → eqb b n ≡ true → b < 128
is_small b n l h = grind (arith, nat_tests)

after_small : (b : ℕ) → SmallAt b (after_int b)
after_small b = small_if b (eqb b 46) _ _ (λ h. is_small b 46 (omega arith) h) (small_if b (is_e b) _ _ (e_small b) tt)

some_small : (l : WordState) (b : ℕ) → SmallAt b (some_digit l b)
some_small l b = small_if b (is_digit b) _ _ (digit_small b) tt

-- a byte that goes on with a number is one of ASCII
number_small : (l : WordState) (b : ℕ) → is_number l ≡ true → SmallAt b (more_state l b)
number_small (Open k) b n = absurd (cc)
number_small (Close k) b n = absurd (cc)
number_small Comma b n = absurd (cc)
number_small Colon b n = absurd (cc)
number_small (Literal m k) b n = absurd (cc)
number_small (Inside s) b n = absurd (cc)
number_small Minus b n = small_if b (eqb b 48) _ _ (λ h. is_small b 48 (omega arith) h) (some_small Whole b)
number_small Zero b n = after_small b
number_small Whole b n = small_if b (is_digit b) _ _ (digit_small b) (after_small b)
number_small Point b n = some_small Fraction b
number_small Fraction b n = small_if b (is_digit b) _ _ (digit_small b) (small_if b (is_e b) _ _ (e_small b) tt)
number_small Exponent b n = small_if b (is_sign b) _ _ (sign_small b) (some_small Power b)
number_small Sign b n = some_small Power b
number_small Power b n = some_small Power b

-- of a number it is UTF-8
number_holds : (l : WordState) (held : List ℕ) → is_number l ≡ true → IsUtf8 held → HoldsWord l held
number_holds (Open k) held n h = tt
number_holds (Close k) held n h = tt
number_holds Comma held n h = tt
number_holds Colon held n h = tt
number_holds (Literal m k) held n h = tt
number_holds (Inside s) held n h = absurd (cc)
number_holds Minus held n h = h
number_holds Zero held n h = h
number_holds Whole held n h = h
number_holds Point held n h = h
number_holds Fraction held n h = h
number_holds Exponent held n h = h
number_holds Sign held n h = h
number_holds Power held n h = h

number_utf8 : (l : WordState) (held : List ℕ) → is_number l ≡ true → HoldsWord l held → IsUtf8 held
number_utf8 (Open k) held n h = absurd (cc (n))
number_utf8 (Close k) held n h = absurd (cc (n))
number_utf8 Comma held n h = absurd (cc (n))
number_utf8 Colon held n h = absurd (cc (n))
number_utf8 (Literal m k) held n h = absurd (cc (n))
number_utf8 (Inside s) held n h = absurd (cc (n))
number_utf8 Minus held n h = h
number_utf8 Zero held n h = h
number_utf8 Whole held n h = h
number_utf8 Point held n h = h
number_utf8 Fraction held n h = h
number_utf8 Exponent held n h = h
number_utf8 Sign held n h = h
number_utf8 Power held n h = h

-- what is held of a number that may end
pub whole_utf8 : (l : WordState) (held : List ℕ) → IsOpen l → mark_of l false held ≡ Some (digits held) → HoldsWord l held → IsUtf8 held
whole_utf8 l held o e h = number_utf8 l held (open_mark l false held (digits held) o e) h

letter_holds : (n : Name) (k : ℕ) (o : Option ℕ) (b : ℕ) (held : List ℕ) → HoldsAt (letter n k o b) held
letter_holds n k None b held = tt
letter_holds n k (Some c) b held = by_test (eqb b c)
  where
    by_test : (t : Bool) → HoldsAt (cond t (Some (Literal n (k + 1))) None) held
    by_test true = tt
    by_test false = tt

string_holds : (o : Option StringState) (held : List ℕ) → NextHolds o held → HoldsAt (option_map Inside o) held
string_holds None held h = tt
string_holds (Some s) held h = h

goes_on : (o : Option WordState) (b : ℕ) (held : List ℕ) → NumberAt o → SmallAt b o → IsUtf8 held → HoldsAt o (held ++ b ∷ [])
goes_on None b held n s h = tt
goes_on (Some l) b held n s h = number_holds l (held ++ b ∷ []) n (IsUtf8-append held (b ∷ []) h (ascii_utf8 b s))

more_holds_at : (l : WordState) (b : ℕ) (held : List ℕ) → IsOpen l → HoldsWord l held → HoldsAt (more_state l b) (held_on l held b)
more_holds_at (Open k) b held o h = tt
more_holds_at (Close k) b held o h = tt
more_holds_at Comma b held o h = tt
more_holds_at Colon b held o h = tt
more_holds_at (Literal n k) b held o h = letter_holds n k (slice_get (spelling n) k) b held
more_holds_at (Inside s) b held o h = string_holds (more_string s b) (held ++ string_adds s b) (text_holds s b held o h)
more_holds_at Minus b held o h = goes_on (more_state Minus b) b held (stays Minus b refl) (number_small Minus b refl) h
more_holds_at Zero b held o h = goes_on (more_state Zero b) b held (stays Zero b refl) (number_small Zero b refl) h
more_holds_at Whole b held o h = goes_on (more_state Whole b) b held (stays Whole b refl) (number_small Whole b refl) h
more_holds_at Point b held o h = goes_on (more_state Point b) b held (stays Point b refl) (number_small Point b refl) h
more_holds_at Fraction b held o h = goes_on (more_state Fraction b) b held (stays Fraction b refl) (number_small Fraction b refl) h
more_holds_at Exponent b held o h = goes_on (more_state Exponent b) b held (stays Exponent b refl) (number_small Exponent b refl) h
more_holds_at Sign b held o h = goes_on (more_state Sign b) b held (stays Sign b refl) (number_small Sign b refl) h
more_holds_at Power b held o h = goes_on (more_state Power b) b held (stays Power b refl) (number_small Power b refl) h

-- a byte that goes on with a word
pub more_holds : (l v : WordState) (b : ℕ) (held : List ℕ) → IsOpen l → HoldsWord l held → more_state l b ≡ Some v → HoldsWord v (held_on l held b)
more_holds l v b held o h e = subst (λ x. HoldsAt x (held_on l held b)) e (more_holds_at l b held o h)
