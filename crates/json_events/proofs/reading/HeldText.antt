-- What is kept of a string is UTF-8, but for a character that has not ended.
use Rattle.std.proofs.Common.{◌≡◌, ℕ, zero, suc, ◌+◌, ◌*◌, ◌<◌, ◌≤◌, Bool, true, false, cond, eqb, leb, List, [], ◌∷◌, ◌++◌, Option, Some, None, inr, refl, sym, ap, ◌∙◌, subst, arith, append_assoc}
use Rattle.std.specs.Prelude.{⊤, ◌&&◌, ◌||◌, not}
use Rattle.std.specs.Char.{digit_value, encode_utf8}
use Rattle.std.specs.Str.{IsUtf8}
use Rattle.std.proofs.lemmas.List.{append-nil}
use Rattle.std.proofs.lemmas.Bool.{cond_both, or_from, ltb-true, and_from}
use Rattle.std.proofs.lemmas.Bool.Decides.{nat_tests}
use Rattle.std.proofs.lemmas.Str.{IsUtf8-append, IsUtf8-encode, encode_ascii}
use Rattle.std.proofs.Math.Utf8.{low_scalar}
use Rattle.json_events.specs.declared.state.StringState.{StringState}
use Rattle.json_events.specs.declared.state.StringState.TheVariants.{Plain, Continuation, Escape, Hex, LowSolidus, LowU, Low, Closed}
use Rattle.json_events.specs.JsonStrings.{escaped_character, is_high_surrogate, is_low_surrogate, paired}
use Rattle.json_events.specs.StringSteps.{within, is_plain, Lead, lead, is_hex, led_to, tail_to, short_to, is_low_front, hex_to, low_to, more_string, short_held, hex_held, low_held, string_adds}
use Rattle.json_events.specs.WordStates.{IsUnitFront, IsLowFront, IsOpenString}
use Rattle.json_events.proofs.strings.Utf8Bytes.{IsRaw, char_of_raw}
use Rattle.json_events.specs.HeldWords.{HoldsText}
use Rattle.json_events.proofs.strings.Utf8Lemmas.{short_ascii, pair_scalar}
use Rattle.json_events.proofs.strings.StringFronts.{unit_is_scalar}

-- what is kept of a string fits the next state
abbrev pub NextHolds : Option StringState → List ℕ → Type 0
NextHolds None held = ⊤
NextHolds (Some s) held = HoldsText s held

either_holds : (t : Bool) (x y : Option StringState) (held : List ℕ) → (t ≡ true → NextHolds x held) → (t ≡ false → NextHolds y held) → NextHolds (cond t x y) held
either_holds t x y held f g = cond_both t x y (λ o. NextHolds o held) f g

-- the list that a test chose
adds_is : (o : Option StringState) (held xs ys : List ℕ) → xs ≡ ys → NextHolds o (held ++ ys) → NextHolds o (held ++ xs)
adds_is o held xs ys e h = subst (λ (l : List ℕ). NextHolds o (held ++ l)) (sym e) h

nothing : (held : List ℕ) → IsUtf8 held → IsUtf8 (held ++ [])
nothing held h = subst (λ (l : List ℕ). IsUtf8 l) (sym (append-nil held)) h

-- a byte of ASCII is a text
pub ascii_utf8 : (b : ℕ) → b < 128 → IsUtf8 (b ∷ [])
ascii_utf8 b h = subst (λ (l : List ℕ). IsUtf8 l) (encode_ascii b h) (IsUtf8-encode b (low_scalar b (omega (arith, h))))

raw_utf8 : (bs : List ℕ) → IsRaw bs → IsUtf8 bs
raw_utf8 bs h = let c = char_of_raw bs h in subst (λ (l : List ℕ). IsUtf8 l) (sym c.2) (IsUtf8-encode c.0 c.1.scalar)

-- a byte that stands for itself is one of ASCII
pub plain_small : (b : ℕ) → is_plain b ≡ true → b < 128
plain_small b h = grind (arith, nat_tests)

led_holds : (b : ℕ) (held : List ℕ) (o : Option Lead) → lead b ≡ o → IsUtf8 held → NextHolds (led_to o) (held ++ b ∷ [])
led_holds b held None e h = tt
led_holds b held (Some l) e h = λ bs t. subst (λ (x : List ℕ). IsUtf8 x) (sym (append_assoc held (b ∷ []) bs)) (IsUtf8-append _ _ h (raw_utf8 (b ∷ bs) (inr (l, e, t))))

plain_holds : (b : ℕ) (held : List ℕ) → IsUtf8 held → NextHolds (more_string Plain b) (held ++ string_adds Plain b)
plain_holds b held h =
    either_holds (eqb b 34) (Some Closed) _ _
    (λ e. adds_is (Some Closed) held (string_adds Plain b) [] (ap (λ t. cond (t || eqb b 92) [] (b ∷ [])) e) (nothing held h))
    (λ n34. either_holds (eqb b 92) (Some Escape) _ _
    (λ e. adds_is (Some Escape) held (string_adds Plain b) [] (ap (λ t. cond (t || eqb b 92) [] (b ∷ [])) n34 ∙ ap (λ t. cond t [] (b ∷ [])) e) (nothing held h))
    (λ n92. adds_is (cond (is_plain b) (Some Plain) (led_to (lead b))) held (string_adds Plain b) (b ∷ []) (ap (λ t. cond t [] (b ∷ [])) (or_from _ _ n34 n92))
    (either_holds (is_plain b) (Some Plain) (led_to (lead b)) (held ++ b ∷ [])
    (λ e. IsUtf8-append _ _ h (ascii_utf8 b (plain_small b e)))
    (λ _. led_holds b held (lead b) refl h))))

tail_holds : (low high n b : ℕ) (held : List ℕ) → within low high b ≡ true → HoldsText (Continuation low high n) held → HoldsText (tail_to n) (held ++ b ∷ [])
tail_holds low high zero b held e h = h (b ∷ []) (b, refl, e)
tail_holds low high (suc n) b held e h = λ bs t. subst (λ (x : List ℕ). IsUtf8 x) (sym (append_assoc held (b ∷ []) bs)) (h (b ∷ bs) (b, bs, refl, e, t))

short_holds : (b : ℕ) (held : List ℕ) (o : Option ℕ) → escaped_character b ≡ o → IsUtf8 held → NextHolds (short_to o) (held ++ short_held o)
short_holds b held None e h = tt
short_holds b held (Some v) e h = IsUtf8-append _ _ h (ascii_utf8 v (short_ascii b v e))

escape_holds : (b : ℕ) (held : List ℕ) → IsUtf8 held → NextHolds (more_string Escape b) (held ++ string_adds Escape b)
escape_holds b held h =
    either_holds (eqb b 117) (Some (Hex 4 0)) _ _
    (λ e. adds_is (Some (Hex 4 0)) held (string_adds Escape b) [] (ap (λ t. cond t [] (short_held (escaped_character b))) e) (nothing held h))
    (λ n. adds_is (short_to (escaped_character b)) held (string_adds Escape b) (short_held (escaped_character b)) (ap (λ t. cond t [] (short_held (escaped_character b))) n) (short_holds b held (escaped_character b) refl h))

hex_holds : (n v b : ℕ) (held : List ℕ) → is_hex b ≡ true → IsUnitFront (suc n) v → IsUtf8 held → NextHolds (hex_to n (v * 16 + digit_value b)) (held ++ hex_held n (v * 16 + digit_value b))
hex_holds zero v b held d f h = by_test (is_high_surrogate (v * 16 + digit_value b)) refl
  where
    by_test : (t : Bool) → is_high_surrogate (v * 16 + digit_value b) ≡ t → HoldsText (cond t (LowSolidus (v * 16 + digit_value b)) Plain) (held ++ cond t [] (encode_utf8 (v * 16 + digit_value b)))
    by_test true e = nothing held h
    by_test false e = IsUtf8-append _ _ h (IsUtf8-encode (v * 16 + digit_value b) (unit_is_scalar v b f d e))
hex_holds (suc n) v b held d f h = either_holds (eqb n 1 && is_low_front (v * 16 + digit_value b)) None (Some (Hex (suc n) (v * 16 + digit_value b))) (held ++ []) (λ _. tt) (λ _. nothing held h)

-- the last digit of a second half makes one
pub last_low : (v d : ℕ) → 3520 ≤ v → v < 3584 → d < 16 → is_low_surrogate (v * 16 + d) ≡ true
last_low v d h l m = and_from _ _ (at_least v d h) (at_most v d l m)
  where
    at_least : (v d : ℕ) → 3520 ≤ v → leb 56320 (v * 16 + d) ≡ true
    at_least v d h = grind (arith, nat_tests)

    at_most : (v d : ℕ) → v < 3584 → d < 16 → leb (v * 16 + d) 57343 ≡ true
    at_most v d l m = grind (arith, nat_tests)

low_holds : (k n v b : ℕ) (held : List ℕ) → is_hex b ≡ true → is_high_surrogate k ≡ true → IsLowFront (suc n) v → IsUtf8 held → NextHolds (low_to k n (v * 16 + digit_value b)) (held ++ low_held k n (v * 16 + digit_value b))
low_holds k zero v b held d hi f h = IsUtf8-append _ _ h (IsUtf8-encode (paired k (v * 16 + digit_value b)) (pair_scalar k (v * 16 + digit_value b) hi (last_low v (digit_value b) f.0 f.1 (ltb-true _ _ d))))
low_holds k (suc n) v b held d hi f h = either_holds ((eqb n 2 && not (eqb (v * 16 + digit_value b) 13)) || (eqb n 1 && not (is_low_front (v * 16 + digit_value b)))) None (Some (Low k (suc n) (v * 16 + digit_value b))) (held ++ []) (λ _. tt) (λ _. nothing held h)

-- a byte keeps it
pub text_holds : (s : StringState) (b : ℕ) (held : List ℕ) → IsOpenString s → HoldsText s held → NextHolds (more_string s b) (held ++ string_adds s b)
text_holds Plain b held o h = plain_holds b held h
text_holds (Continuation low high n) b held o h = either_holds (within low high b) (Some (tail_to n)) None (held ++ b ∷ []) (λ e. tail_holds low high n b held e h) (λ _. tt)
text_holds Escape b held o h = escape_holds b held h
text_holds (Hex zero v) b held o h = tt
text_holds (Hex (suc n) v) b held o h = either_holds (is_hex b) (hex_to n (v * 16 + digit_value b)) None (held ++ hex_held n (v * 16 + digit_value b)) (λ e. hex_holds n v b held e o h) (λ _. tt)
text_holds (LowSolidus k) b held o h = either_holds (eqb b 92) (Some (LowU k)) None (held ++ []) (λ _. nothing held h) (λ _. tt)
text_holds (LowU k) b held o h = either_holds (eqb b 117) (Some (Low k 4 0)) None (held ++ []) (λ _. nothing held h) (λ _. tt)
text_holds (Low k zero v) b held o h = tt
text_holds (Low k (suc n) v) b held o h = either_holds (is_hex b) (low_to k n (v * 16 + digit_value b)) None (held ++ low_held k n (v * 16 + digit_value b)) (λ e. low_holds k n v b held e o.0 o.1 h) (λ _. tt)
text_holds Closed b held o h = absurd o
