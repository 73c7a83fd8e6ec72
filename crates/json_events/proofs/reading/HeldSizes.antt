-- What is kept of a word is no longer than what came of it.
use Rattle.std.proofs.Common.{◌≡◌, ℕ, zero, suc, ◌+◌, ◌-◌, ◌*◌, ◌^◌, ◌<◌, ◌≤◌, Bool, true, false, cond, eqb, List, [], ◌∷◌, ◌++◌, length, Option, Some, None, refl, ap, subst, arith}
use Rattle.std.specs.Prelude.{⊤, option_map, slice_get, ◌||◌, ◌&&◌, not}
use Rattle.std.specs.Char.{digit_value, encode_utf8}
use Rattle.std.proofs.lemmas.List.{length-append}
use Rattle.std.proofs.lemmas.Bool.{cond_both}
use Rattle.json_events.specs.declared.state.Name.{Name}
use Rattle.json_events.specs.declared.state.StringState.{StringState}
use Rattle.json_events.specs.declared.state.StringState.TheVariants.{Plain, Continuation, Escape, Hex, LowSolidus, LowU, Low, Closed}
use Rattle.json_events.specs.declared.state.WordState.{WordState}
use Rattle.json_events.specs.declared.state.WordState.TheVariants.{Open, Close, Comma, Colon, Literal, Inside, Minus, Zero, Whole, Point, Fraction, Exponent, Sign, Power}
use Rattle.json_events.specs.JsonStrings.{is_high_surrogate, paired, escaped_character}
use Rattle.json_events.specs.JsonText.{spelling}
use Rattle.json_events.specs.StringSteps.{Lead, within, lead, is_plain, is_hex, led_to, tail_to, short_to, is_low_front, hex_to, low_to, more_hex, more_low, more_string, short_held, hex_held, low_held, hex_adds, low_adds, string_adds}
use Rattle.json_events.specs.WordSteps.{Word, is_digit, begin, letter, more_state, is_number, held_on, first_held}
use Rattle.json_events.specs.WordStates.{IsUnitFront, IsLowFront, IsOpen}
use Rattle.json_events.specs.HeldWords.{unkept, unkept_of}
use Rattle.json_events.specs.ReaderState.{KeepsLess}
use Rattle.base.specs.Saturated.{saturated}
use Rattle.json_events.proofs.texts.WordLemmas.{NumberAt, stays}

-- what a byte adds and what is not kept behind it are no more than so many
abbrev LessAt : ℕ → ℕ → Option StringState → Type 0
LessAt n a None = ⊤
LessAt n a (Some s) = a + unkept s ≤ n

utf8_size : (u : ℕ) → length (encode_utf8 u) ≤ 4
unfolding encode_utf8
utf8_size u = grind arith

led_less : (o : Option Lead) → LessAt 2 1 (led_to o)
led_less None = tt
led_less (Some l) = omega arith

plain_less : (t u v : Bool) (b : ℕ) (o : Option Lead) → LessAt 2 (length (cond (t || u) [] (b ∷ [])))
    (cond t (Some Closed) (cond u (Some Escape) (cond v (Some Plain) (led_to o))))
plain_less true u v b o = omega arith
plain_less false true v b o = omega arith
plain_less false false true b o = omega arith
plain_less false false false b o = led_less o

tail_less : (t : Bool) (n : ℕ) → LessAt 2 1 (cond t (Some (tail_to n)) None)
tail_less false n = tt
tail_less true zero = omega arith
tail_less true (suc n) = omega arith

short_less : (t : Bool) (o : Option ℕ)
    → LessAt 3 (length (cond t [] (short_held o))) (cond t (Some (Hex 4 0)) (short_to o))
short_less true o = omega arith
short_less false None = tt
short_less false (Some v) = omega arith

hex_less : (n u : ℕ) → n ≤ 3 → LessAt (7 - n) (length (hex_held n u)) (hex_to n u)
hex_less zero u h = by_test (is_high_surrogate u)
  where
    by_test : (t : Bool) → LessAt 7 (length (cond t [] (encode_utf8 u))) (Some (cond t (LowSolidus u) Plain))
    by_test true = omega arith
    by_test false = omega (arith, utf8_size u)
hex_less (suc n) u h = by_test (eqb n 1 && is_low_front u)
  where
    by_test : (t : Bool) → LessAt (7 - suc n) 0 (cond t None (Some (Hex (suc n) u)))
    by_test true = tt
    by_test false = omega (arith, h)

unit_less : (k v b : ℕ) → IsUnitFront k v → LessAt (unkept (Hex k v) + 1) (length (hex_adds k v b)) (more_hex k v b)
unit_less zero v b h = absurd h
unit_less (suc n) v b h = by_test (is_hex b) (v * 16 + digit_value b) (few n v h)
  where
    few : (n v : ℕ) → IsUnitFront (suc n) v → n ≤ 3
    few zero v x = omega arith
    few (suc zero) v x = omega arith
    few (suc (suc zero)) v x = omega arith
    few (suc (suc (suc zero))) v x = omega arith
    few (suc (suc (suc (suc n)))) v x = absurd x

    same : (n : ℕ) → n ≤ 3 → 7 - n ≡ 7 - suc n + 1
    same n x = omega (arith, x)

    by_test : (t : Bool) (u : ℕ) → n ≤ 3
        → LessAt (7 - suc n + 1) (length (hex_held n u)) (cond t (hex_to n u) None)
    by_test false u x = tt
    by_test true u x =
        subst (λ m. LessAt m (length (hex_held n u)) (hex_to n u)) (same n x) (hex_less n u x)

low_less : (g n u : ℕ) → n ≤ 3 → LessAt (13 - n) (length (low_held g n u)) (low_to g n u)
low_less g zero u h = omega (arith, utf8_size (paired g u))
low_less g (suc n) u h = by_test ((eqb n 2 && not (eqb u 13)) || (eqb n 1 && not (is_low_front u)))
  where
    by_test : (t : Bool) → LessAt (13 - suc n) 0 (cond t None (Some (Low g (suc n) u)))
    by_test true = tt
    by_test false = omega (arith, h)

half_less : (g k v b : ℕ) → IsLowFront k v
    → LessAt (unkept (Low g k v) + 1) (length (low_adds g k v b)) (more_low g k v b)
half_less g zero v b h = absurd h
half_less g (suc n) v b h = by_test (is_hex b) (v * 16 + digit_value b) (few n v h)
  where
    few : (n v : ℕ) → IsLowFront (suc n) v → n ≤ 3
    few zero v x = omega arith
    few (suc zero) v x = omega arith
    few (suc (suc zero)) v x = omega arith
    few (suc (suc (suc zero))) v x = omega arith
    few (suc (suc (suc (suc n)))) v x = absurd x

    same : (n : ℕ) → n ≤ 3 → 13 - n ≡ 13 - suc n + 1
    same n x = omega (arith, x)

    by_test : (t : Bool) (u : ℕ) → n ≤ 3
        → LessAt (13 - suc n + 1) (length (low_held g n u)) (cond t (low_to g n u) None)
    by_test false u x = tt
    by_test true u x =
        subst (λ m. LessAt m (length (low_held g n u)) (low_to g n u)) (same n x) (low_less g n u x)

one_less : (t : Bool) (s : StringState) (n : ℕ) → unkept s ≤ n → LessAt n 0 (cond t (Some s) None)
one_less true s n h = omega (arith, h)
one_less false s n h = tt

-- a byte of a string
string_less : (s : StringState) (b : ℕ) → IsOpen (Inside s)
    → LessAt (unkept s + 1) (length (string_adds s b)) (more_string s b)
string_less Plain b h = plain_less (eqb b 34) (eqb b 92) (is_plain b) b (lead b)
string_less (Continuation low high n) b h = tail_less (within low high b) n
string_less Escape b h = short_less (eqb b 117) (escaped_character b)
string_less (Hex k v) b h = unit_less k v b h
string_less (LowSolidus g) b h = one_less (eqb b 92) (LowU g) 8 (omega arith)
string_less (LowU g) b h = one_less (eqb b 117) (Low g 4 0) 9 (omega arith)
string_less (Low g k v) b h = half_less g k v b h.1
string_less Closed b h = absurd h

-- what is kept and what is not, of a word that there is, are no more than so many
abbrev FitsAt : ℕ → ℕ → Option WordState → Type 0
FitsAt n a None = ⊤
FitsAt n a (Some l) = a + unkept_of l ≤ n

number_kept : (l : WordState) → is_number l ≡ true → unkept_of l ≡ 0
number_kept (Open k) h = refl
number_kept (Close k) h = refl
number_kept Comma h = refl
number_kept Colon h = refl
number_kept (Literal n k) h = refl
number_kept (Inside s) h = absurd (cc (h))
number_kept Minus h = refl
number_kept Zero h = refl
number_kept Whole h = refl
number_kept Point h = refl
number_kept Fraction h = refl
number_kept Exponent h = refl
number_kept Sign h = refl
number_kept Power h = refl

number_fits : (o : Option WordState) (b : ℕ) (held : List ℕ) → NumberAt o
    → FitsAt (length held + 0 + 1) (length (held ++ b ∷ [])) o
number_fits None b held h = tt
number_fits (Some l) b held h = omega (arith, number_kept l h, length-append held (b ∷ []))

letter_fits : (n : Name) (k : ℕ) (o : Option ℕ) (b : ℕ) (held : List ℕ)
    → FitsAt (length held + 0 + 1) (length held) (letter n k o b)
letter_fits n k None b held = tt
letter_fits n k (Some c) b held = by_test (eqb b c)
  where
    by_test : (t : Bool) → FitsAt (length held + 0 + 1) (length held) (cond t (Some (Literal n (k + 1))) None)
    by_test true = omega arith
    by_test false = tt

text_fits : (s : StringState) (o : Option StringState) (held adds : List ℕ) → LessAt (unkept s + 1) (length adds) o
    → FitsAt (length held + unkept s + 1) (length (held ++ adds)) (option_map Inside o)
text_fits s None held adds h = tt
text_fits s (Some v) held adds h = omega (arith, h, length-append held adds)

more_fits : (l : WordState) (b : ℕ) (held : List ℕ) → IsOpen l
    → FitsAt (length held + unkept_of l + 1) (length (held_on l held b)) (more_state l b)
more_fits (Open k) b held h = absurd h
more_fits (Close k) b held h = absurd h
more_fits Comma b held h = absurd h
more_fits Colon b held h = absurd h
more_fits (Literal n k) b held h = letter_fits n k (slice_get (spelling n) k) b held
more_fits (Inside s) b held h = text_fits s (more_string s b) held (string_adds s b) (string_less s b h)
more_fits Minus b held h = number_fits (more_state Minus b) b held (stays Minus b refl)
more_fits Zero b held h = number_fits (more_state Zero b) b held (stays Zero b refl)
more_fits Whole b held h = number_fits (more_state Whole b) b held (stays Whole b refl)
more_fits Point b held h = number_fits (more_state Point b) b held (stays Point b refl)
more_fits Fraction b held h = number_fits (more_state Fraction b) b held (stays Fraction b refl)
more_fits Exponent b held h = number_fits (more_state Exponent b) b held (stays Exponent b refl)
more_fits Sign b held h = number_fits (more_state Sign b) b held (stays Sign b refl)
more_fits Power b held h = number_fits (more_state Power b) b held (stays Power b refl)

-- a byte more of a word adds one to what is kept and what is not, at most
pub more_kept : (l v : WordState) (b : ℕ) (held : List ℕ) → IsOpen l → more_state l b ≡ Some v
    → length (held_on l held b) + unkept_of v ≤ length held + unkept_of l + 1
more_kept l v b held o e =
    subst (FitsAt (length held + unkept_of l + 1) (length (held_on l held b))) e (more_fits l b held o)

-- a first byte of a word
abbrev FirstAt : ℕ → Option Word → Type 0
FirstAt b None = ⊤
FirstAt b (Some w) = length (first_held w.state b) + unkept_of w.state ≤ 1

first_at : (k : Bool) (b : ℕ) → FirstAt b (begin k b)
first_at k b =
    cond_both (eqb b 34) _ _ (FirstAt b) (λ _. omega arith)
    (λ _. cond_both (eqb b 91) _ _ (FirstAt b) (λ _. omega arith)
    (λ _. cond_both (eqb b 93) _ _ (FirstAt b) (λ _. omega arith)
    (λ _. cond_both (eqb b 123) _ _ (FirstAt b) (λ _. omega arith)
    (λ _. cond_both (eqb b 125) _ _ (FirstAt b) (λ _. omega arith)
    (λ _. cond_both (eqb b 44) _ _ (FirstAt b) (λ _. omega arith)
    (λ _. cond_both (eqb b 58) _ _ (FirstAt b) (λ _. omega arith)
    (λ _. cond_both (eqb b 45) _ _ (FirstAt b) (λ _. omega arith)
    (λ _. cond_both (eqb b 48) _ _ (FirstAt b) (λ _. omega arith)
    (λ _. cond_both (is_digit b) _ _ (FirstAt b) (λ _. omega arith)
    (λ _. cond_both (eqb b 116) _ _ (FirstAt b) (λ _. omega arith)
    (λ _. cond_both (eqb b 102) _ _ (FirstAt b) (λ _. omega arith)
    (λ _. cond_both (eqb b 110) _ _ (FirstAt b) (λ _. omega arith)
    (λ _. tt)))))))))))))

-- with its first byte what is kept of a word and what is not are one byte at most
pub first_kept : (k : Bool) (b : ℕ) (w : Word) → begin k b ≡ Some w
    → length (first_held w.state b) + unkept_of w.state ≤ 1
first_kept k b w e = subst (FirstAt b) e (first_at k b)

-- a byte that goes on with a word keeps that
pub kept_next : (l v : WordState) (b : ℕ) (held new : List ℕ) (from at to : ℕ) → IsOpen l
    → KeepsLess (Some l) held from at → more_state l b ≡ Some v → new ≡ held_on l held b → to ≡ saturated (at + 1)
    → KeepsLess (Some v) new from to
kept_next l v b held new from at to o k e f t = λ h.
    let below : at < 2 ^ 64 - 1 = omega (arith, h, t) in
    omega (arith, h, t, k below, more_kept l v b held o e, ap length f)
