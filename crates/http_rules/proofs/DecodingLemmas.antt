-- What stands at the front of a text that is decoded but for slashes.
use Rattle.std.proofs.Common.{◌≡◌, ◌<◌, ◌≤◌, ℕ, suc, slice_get, ◌+◌, ◌*◌, Bool, true, false, cond, List, [], ◌∷◌, ◌++◌, length, take, drop, get_or, Some, None, refl, sym, ap, ◌∙◌, arith, append_assoc}
use Rattle.std.proofs.lemmas.List.{append-nil}
use Rattle.std.specs.Char.{digit_value}
use Rattle.percent_encoding.specs.Percent.{is_escape, percent_decode}
use Rattle.http_rules.specs.PercentDecoding.{is_slash_escape, is_single, captured, decode_but_slashes, begins_slash_escape, first_escape, variable_segments}
use Rattle.http_rules.specs.declared.template.Template.{Template}

-- the escape of a slash stays
pub slash_front : (t : List ℕ) → begins_slash_escape t ≡ true → decode_but_slashes t ≡ take 3 t ++ decode_but_slashes (drop 3 t)
unfolding decode_but_slashes
slash_front [] h = absurd (cc)
slash_front (b ∷ []) h = absurd (cc)
slash_front (b ∷ c ∷ []) h = absurd (cc)
slash_front (b ∷ high ∷ low ∷ rest) h =
    let k : List ℕ = cond (is_escape b high low) ((16 * digit_value high + digit_value low) ∷ decode_but_slashes rest) (b ∷ decode_but_slashes (high ∷ low ∷ rest)) in
    ap (λ t. cond t (b ∷ high ∷ low ∷ decode_but_slashes rest) k) h

-- another escape becomes its byte
pub escape_front : (t : List ℕ) (byte : ℕ) → begins_slash_escape t ≡ false → first_escape t ≡ Some byte → decode_but_slashes t ≡ byte ∷ decode_but_slashes (drop 3 t)
unfolding decode_but_slashes
escape_front [] byte s h = absurd (cc)
escape_front (b ∷ []) byte s h = absurd (cc)
escape_front (b ∷ c ∷ []) byte s h = absurd (cc)
escape_front (b ∷ high ∷ low ∷ rest) byte s h = by_tests (is_slash_escape b high low) (is_escape b high low) s h
  where
    by_tests : (x y : Bool) → x ≡ false → cond y (Some (16 * digit_value high + digit_value low)) None ≡ Some byte
        → cond x (b ∷ high ∷ low ∷ decode_but_slashes rest) (cond y ((16 * digit_value high + digit_value low) ∷ decode_but_slashes rest) (b ∷ decode_but_slashes (high ∷ low ∷ rest))) ≡ byte ∷ decode_but_slashes rest
    by_tests true y e f = absurd (cc)
    by_tests false true e f = cc
    by_tests false false e f = absurd (cc)

-- any other byte stays
pub plain_front : (t : List ℕ) → first_escape t ≡ None → begins_slash_escape t ≡ false → 0 < length t → decode_but_slashes t ≡ get_or t 0 0 ∷ decode_but_slashes (drop 1 t)
unfolding decode_but_slashes
plain_front [] h s l = absurd (omega arith)
plain_front (b ∷ []) h s l = refl
plain_front (b ∷ c ∷ []) h s l = refl
plain_front (b ∷ high ∷ low ∷ rest) h s l = by_tests (is_slash_escape b high low) (is_escape b high low) s h
  where
    by_tests : (x y : Bool) → x ≡ false → cond y (Some (16 * digit_value high + digit_value low)) None ≡ None
        → cond x (b ∷ high ∷ low ∷ decode_but_slashes rest) (cond y ((16 * digit_value high + digit_value low) ∷ decode_but_slashes rest) (b ∷ decode_but_slashes (high ∷ low ∷ rest))) ≡ b ∷ decode_but_slashes (high ∷ low ∷ rest)
    by_tests true y e f = absurd (cc)
    by_tests false true e f = absurd (cc)
    by_tests false false e f = refl

-- the loop is done
pub at_end : (out rest text : List ℕ) → out ++ decode_but_slashes rest ≡ decode_but_slashes text → length rest ≡ 0 → out ≡ decode_but_slashes text
unfolding decode_but_slashes
at_end out [] text h l = sym (append-nil out) ∙ h
at_end out (b ∷ rest) text h l = absurd (omega arith)

-- one step of the loop
pub goes_on : (out new piece rest behind text : List ℕ) → new ≡ out ++ piece → rest ≡ behind → decode_but_slashes text ≡ piece ++ decode_but_slashes behind → new ++ decode_but_slashes rest ≡ out ++ decode_but_slashes text
goes_on out new piece rest behind text n r e =
    ap (λ x. x ++ decode_but_slashes rest) n ∙ ap (λ x. (out ++ piece) ++ decode_but_slashes x) r ∙ append_assoc out piece (decode_but_slashes behind) ∙ ap (λ x. out ++ x) (sym e)

-- ---- lengths

-- a decoded text has at most as many bytes
but_slashes_shorter : (t : List ℕ) → length (decode_but_slashes t) ≤ length t
unfolding decode_but_slashes
but_slashes_shorter [] = omega arith
but_slashes_shorter (b ∷ []) = omega arith
but_slashes_shorter (b ∷ c ∷ []) = omega arith
but_slashes_shorter (b ∷ high ∷ low ∷ rest) =
    by_tests (is_slash_escape b high low) (is_escape b high low) (but_slashes_shorter rest)
    (but_slashes_shorter (high ∷ low ∷ rest))
  where
    by_tests : (x y : Bool) → length (decode_but_slashes rest) ≤ length rest
        → length (decode_but_slashes (high ∷ low ∷ rest)) ≤ suc (suc (length rest))
        → length (cond x (b ∷ high ∷ low ∷ decode_but_slashes rest)
        (cond y ((16 * digit_value high + digit_value low) ∷ decode_but_slashes rest)
        (b ∷ decode_but_slashes (high ∷ low ∷ rest)))) ≤ suc (suc (suc (length rest)))
    by_tests true y h k = omega (arith, h)
    by_tests false true h k = omega (arith, h)
    by_tests false false h k = omega (arith, k)

whole_shorter : (t : List ℕ) → length (percent_decode t) ≤ length t
unfolding percent_decode
whole_shorter [] = omega arith
whole_shorter (b ∷ []) = omega arith
whole_shorter (b ∷ c ∷ []) = omega arith
whole_shorter (b ∷ high ∷ low ∷ rest) =
    by_test (is_escape b high low) (whole_shorter rest) (whole_shorter (high ∷ low ∷ rest))
  where
    by_test : (y : Bool) → length (percent_decode rest) ≤ length rest
        → length (percent_decode (high ∷ low ∷ rest)) ≤ suc (suc (length rest))
        → length (cond y ((16 * digit_value high + digit_value low) ∷ percent_decode rest)
        (b ∷ percent_decode (high ∷ low ∷ rest))) ≤ suc (suc (suc (length rest)))
    by_test true h k = omega (arith, h)
    by_test false h k = omega (arith, k)

-- what a variable takes is decoded to at most as many bytes
pub captured_shorter : (t : Template) (index : ℕ) (text : List ℕ) → length (captured t index text) ≤ length text
captured_shorter t index text = by_kind (is_single (variable_segments t.segments (slice_get t.variables index)))
  where
    by_kind : (x : Bool) → length (cond x (percent_decode text) (decode_but_slashes text)) ≤ length text
    by_kind true = whole_shorter text
    by_kind false = but_slashes_shorter text
