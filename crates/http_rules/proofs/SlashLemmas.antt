-- Decoding but for slashes against decoding whole.
use Rattle.std.proofs.Common.{◌≡◌, ℕ, ◌+◌, ◌*◌, ◌==◌, ◌&&◌, ◌||◌, suc, Bool, true, false, cond, List, [], ◌∷◌, ◌++◌, refl, sym, ap, subst, ◌∙◌, slice_get}
use Rattle.std.proofs.lemmas.Bool.{and_parts, eqb-true}
use Rattle.std.specs.Char.{digit_value}
use Rattle.std.specs.List.{flat_map}
use Rattle.percent_encoding.specs.Percent.{is_escape, percent_decode, percent_sign}
use Rattle.http_rules.specs.EscapedSlashes.{HasNoSlashEscape, byte, decoded_parts, part_escaped, part_whole, slash}
use Rattle.http_rules.specs.PercentDecoding.{captured, decode_but_slashes, is_single, is_slash_escape, variable_segments}
use Rattle.http_rules.specs.declared.template.Template.{Template}

-- a text without escaped slashes is decoded whole
pub slashes_alike : (text : List ℕ) → HasNoSlashEscape text → decode_but_slashes text ≡ percent_decode text
unfolding decode_but_slashes percent_decode
slashes_alike [] h = refl
slashes_alike (b ∷ []) h = refl
slashes_alike (b ∷ c ∷ []) h = refl
slashes_alike (b ∷ high ∷ low ∷ rest) h =
    by_tests (is_slash_escape b high low) (is_escape b high low) (h 0)
    (slashes_alike rest (λ i. h (suc (suc (suc i))))) (slashes_alike (high ∷ low ∷ rest) (λ i. h (suc i)))
  where
    by_tests : (x y : Bool) → x ≡ false → decode_but_slashes rest ≡ percent_decode rest
        → decode_but_slashes (high ∷ low ∷ rest) ≡ percent_decode (high ∷ low ∷ rest)
        → cond x (b ∷ high ∷ low ∷ decode_but_slashes rest)
        (cond y ((16 * digit_value high + digit_value low) ∷ decode_but_slashes rest) (b
        ∷ decode_but_slashes (high ∷ low ∷ rest)))
        ≡ cond y ((16 * digit_value high + digit_value low) ∷ percent_decode rest) (b
        ∷ percent_decode (high ∷ low ∷ rest))
    by_tests true y e f g = absurd (cc e)
    by_tests false true e f g = ap (λ z. (16 * digit_value high + digit_value low) ∷ z) f
    by_tests false false e f g = ap (λ z. b ∷ z) g

-- so what a variable takes of it is decoded whole, whatever its segments
pub captured_alike : (t : Template) (index : ℕ) (text : List ℕ) → HasNoSlashEscape text
    → captured t index text ≡ percent_decode text
captured_alike t index text h = pick (is_single (variable_segments t.segments (slice_get t.variables index)))
  where
    pick : (b : Bool) → cond b (percent_decode text) (decode_but_slashes text) ≡ percent_decode text
    pick true = refl
    pick false = slashes_alike text h

-- the escape of a slash is an escape, of the byte 47
slash_value : (b high low : ℕ) → is_slash_escape b high low ≡ true
    → (b ∷ high ∷ low ∷ [] ≡ 37 ∷ 50 ∷ low ∷ []) × (is_escape b high low ≡ true)
    × (16 * digit_value high + digit_value low ≡ 47)
slash_value b high low h =
    let first = and_parts (b == percent_sign) (high == 50 && (low == 70 || low == 102)) h in
    let second = and_parts (high == 50) (low == 70 || low == 102) first.1 in
    let sign = eqb-true b percent_sign first.0 in
    let two = eqb-true high 50 second.0 in
    subst (λ x. (x ∷ high ∷ low ∷ [] ≡ 37 ∷ 50 ∷ low ∷ []) × (is_escape x high low ≡ true)
    × (16 * digit_value high + digit_value low ≡ 47)) (sym sign)
    (subst (λ y. (37 ∷ y ∷ low ∷ [] ≡ 37 ∷ 50 ∷ low ∷ []) × (is_escape 37 y low ≡ true)
    × (16 * digit_value y + digit_value low ≡ 47)) (sym two)
    (last (low == 70) (low == 102) (eqb-true low 70) (eqb-true low 102) second.1))
  where
    last : (x y : Bool) → (x ≡ true → low ≡ 70) → (y ≡ true → low ≡ 102) → (x || y) ≡ true
        → (37 ∷ 50 ∷ low ∷ [] ≡ 37 ∷ 50 ∷ low ∷ []) × (is_escape 37 50 low ≡ true)
        × (16 * digit_value 50 + digit_value low ≡ 47)
    last true y p q e = subst (λ z. (37 ∷ 50 ∷ z ∷ [] ≡ 37 ∷ 50 ∷ z ∷ []) × (is_escape 37 50 z ≡ true)
        × (16 * digit_value 50 + digit_value z ≡ 47)) (sym (p refl)) (refl, refl, refl)
    last false true p q e = subst (λ z. (37 ∷ 50 ∷ z ∷ [] ≡ 37 ∷ 50 ∷ z ∷ []) × (is_escape 37 50 z ≡ true)
        × (16 * digit_value 50 + digit_value z ≡ 47)) (sym (q refl)) (refl, refl, refl)
    last false false p q e = absurd (cc e)

-- a text that is decoded but for slashes is its parts, with the escapes of slashes as they stand
pub parts_escaped : (text : List ℕ) → decode_but_slashes text ≡ flat_map part_escaped (decoded_parts text)
unfolding decode_but_slashes decoded_parts
parts_escaped [] = refl
parts_escaped (b ∷ []) = refl
parts_escaped (b ∷ c ∷ []) = refl
parts_escaped (b ∷ high ∷ low ∷ rest) =
    by_tests (is_slash_escape b high low) (is_escape b high low) (λ h. (slash_value b high low h).0)
    (parts_escaped rest) (parts_escaped (high ∷ low ∷ rest))
  where
    by_tests : (x y : Bool) → (x ≡ true → b ∷ high ∷ low ∷ [] ≡ 37 ∷ 50 ∷ low ∷ [])
        → decode_but_slashes rest ≡ flat_map part_escaped (decoded_parts rest)
        → decode_but_slashes (high ∷ low ∷ rest) ≡ flat_map part_escaped (decoded_parts (high ∷ low ∷ rest))
        → cond x (b ∷ high ∷ low ∷ decode_but_slashes rest)
        (cond y ((16 * digit_value high + digit_value low) ∷ decode_but_slashes rest) (b
        ∷ decode_but_slashes (high ∷ low ∷ rest)))
        ≡ flat_map part_escaped (cond x (slash low ∷ decoded_parts rest)
        (cond y (byte (16 * digit_value high + digit_value low) ∷ decoded_parts rest) (byte b
        ∷ decoded_parts (high ∷ low ∷ rest))))
    by_tests true y e f g = ap (λ z. z ++ decode_but_slashes rest) (e refl) ∙ ap (λ z. 37 ∷ 50 ∷ low ∷ z) f
    by_tests false true e f g = ap (λ z. (16 * digit_value high + digit_value low) ∷ z) f
    by_tests false false e f g = ap (λ z. b ∷ z) g

-- one that is decoded whole is its parts, with each slash decoded
pub parts_whole : (text : List ℕ) → percent_decode text ≡ flat_map part_whole (decoded_parts text)
unfolding percent_decode decoded_parts
parts_whole [] = refl
parts_whole (b ∷ []) = refl
parts_whole (b ∷ c ∷ []) = refl
parts_whole (b ∷ high ∷ low ∷ rest) =
    by_tests (is_slash_escape b high low) (is_escape b high low) (λ h. let s = slash_value b high low h in (s.1, s.2))
    (parts_whole rest) (parts_whole (high ∷ low ∷ rest))
  where
    by_tests : (x y : Bool) → (x ≡ true → (y ≡ true) × (16 * digit_value high + digit_value low ≡ 47))
        → percent_decode rest ≡ flat_map part_whole (decoded_parts rest)
        → percent_decode (high ∷ low ∷ rest) ≡ flat_map part_whole (decoded_parts (high ∷ low ∷ rest))
        → cond y ((16 * digit_value high + digit_value low) ∷ percent_decode rest) (b
        ∷ percent_decode (high ∷ low ∷ rest))
        ≡ flat_map part_whole (cond x (slash low ∷ decoded_parts rest)
        (cond y (byte (16 * digit_value high + digit_value low) ∷ decoded_parts rest) (byte b
        ∷ decoded_parts (high ∷ low ∷ rest))))
    by_tests true true e f g = ap (λ z. z ∷ percent_decode rest) (e refl).1 ∙ ap (λ z. 47 ∷ z) f
    by_tests true false e f g = absurd (cc ((e refl).0))
    by_tests false true e f g = ap (λ z. (16 * digit_value high + digit_value low) ∷ z) f
    by_tests false false e f g = ap (λ z. b ∷ z) g
