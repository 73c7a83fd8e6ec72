-- What stands before a `+` is decoded by itself: no escape has a space in it.
use Rattle.std.proofs.Common.{◌≡◌, ◌≢◌, ℕ, suc, ◌+◌, ◌*◌, Bool, true, false, cond, ◌==◌, ◌&&◌, List, [], ◌∷◌, ◌++◌, length, map, sym, refl, ap, ◌∙◌, subst, ⊎_elim, arith}
use Rattle.std.proofs.lemmas.Bool.{cases_eq, ne_eqb}
use Rattle.std.specs.Char.{digit_value, is_digit}
use Rattle.form_urlencoded.specs.Form.{split_once, plus_to_space, decode}
use Rattle.form_urlencoded.proofs.FormLemmas.{split_once_before_same, split_once_before_other, split_once_after_other}
use Rattle.percent_encoding.specs.Percent.{is_escape, percent_decode}
use Rattle.percent_encoding.proofs.PercentLemmas.{percent_decode_not_percent}

-- bytes with a space are decoded on its two sides
space_decoded : (a b : List ℕ) → percent_decode (a ++ 32 ∷ b) ≡ percent_decode a ++ 32 ∷ percent_decode b
unfolding percent_decode
space_decoded [] b = percent_decode_not_percent 32 b (λ e. absurd (omega (arith, e)))
space_decoded (x ∷ []) [] = refl
space_decoded (x ∷ []) (c ∷ cs) =
    by_test (x == 37) ∙ ap (λ l. x ∷ l) (percent_decode_not_percent 32 (c ∷ cs) (λ e. absurd (omega (arith, e))))
  where
    by_test : (t : Bool)
        → cond (t && is_digit 32 16 && is_digit c 16) ((16 * digit_value 32 + digit_value c) ∷ percent_decode cs)
        (x ∷ percent_decode (32 ∷ c ∷ cs)) ≡ x ∷ percent_decode (32 ∷ c ∷ cs)
    by_test true = refl
    by_test false = refl
space_decoded (x ∷ y ∷ []) b =
    by_tests (x == 37) (is_digit y 16) ∙ ap (λ l. x ∷ l) (space_decoded (y ∷ []) b)
  where
    by_tests : (t u : Bool)
        → cond (t && u && is_digit 32 16) ((16 * digit_value y + digit_value 32) ∷ percent_decode b)
        (x ∷ percent_decode (y ∷ 32 ∷ b)) ≡ x ∷ percent_decode (y ∷ 32 ∷ b)
    by_tests true true = refl
    by_tests true false = refl
    by_tests false u = refl
space_decoded (x ∷ y ∷ z ∷ r) b = by_test (is_escape x y z) (space_decoded r b) (space_decoded (y ∷ z ∷ r) b)
  where
    by_test : (t : Bool) → percent_decode (r ++ 32 ∷ b) ≡ percent_decode r ++ 32 ∷ percent_decode b
        → percent_decode (y ∷ z ∷ r ++ 32 ∷ b) ≡ percent_decode (y ∷ z ∷ r) ++ 32 ∷ percent_decode b
        → cond t ((16 * digit_value y + digit_value z) ∷ percent_decode (r ++ 32 ∷ b))
        (x ∷ percent_decode (y ∷ z ∷ r ++ 32 ∷ b))
        ≡ cond t ((16 * digit_value y + digit_value z) ∷ percent_decode r) (x ∷ percent_decode (y ∷ z ∷ r))
        ++ 32 ∷ percent_decode b
    by_test true h k = ap (λ l. (16 * digit_value y + digit_value z) ∷ l) h
    by_test false h k = ap (λ l. x ∷ l) k

-- the first `+` becomes a space, and what stands before it stays
plus_replaced : (bs : List ℕ) → length ((split_once 43 bs).0) ≢ length bs
    → map plus_to_space bs ≡ (split_once 43 bs).0 ++ 32 ∷ map plus_to_space ((split_once 43 bs).1)
plus_replaced [] h = absurd (h refl)
plus_replaced (b ∷ bs) h =
    ⊎_elim
    (λ e. subst (λ x. map plus_to_space (x ∷ bs)
    ≡ (split_once 43 (x ∷ bs)).0 ++ 32 ∷ map plus_to_space ((split_once 43 (x ∷ bs)).1)) (sym e) refl)
    (λ other.
    let later = plus_replaced bs (λ k. h (ap length (split_once_before_other 43 b bs other) ∙ ap suc k)) in
    rw (split_once_before_other 43 b bs other, split_once_after_other 43 b bs other, ne_eqb b 43 other)
    (ap (λ l. b ∷ l) later))
    (cases_eq b 43)

-- bytes without a `+` stay
none_replaced : (bs : List ℕ) → length ((split_once 43 bs).0) ≡ length bs → map plus_to_space bs ≡ bs
none_replaced [] h = refl
none_replaced (b ∷ bs) h =
    ⊎_elim
    (λ e. let front : length ((split_once 43 (b ∷ bs)).0) ≡ 0 = ap (λ x. length ((split_once 43 (x ∷ bs)).0)) e
    ∙ ap length (split_once_before_same 43 bs) in absurd (omega (arith, h, front)))
    (λ other.
    let shorter : suc (length ((split_once 43 bs).0)) ≡ suc (length bs) =
    sym (ap length (split_once_before_other 43 b bs other)) ∙ h in
    rw (ne_eqb b 43 other) (ap (λ l. b ∷ l) (none_replaced bs (omega (arith, shorter)))))
    (cases_eq b 43)

-- what stands before the first `+`, a space, and what stands behind it
pub at_plus : (bs : List ℕ) → length ((split_once 43 bs).0) ≢ length bs
    → decode bs ≡ percent_decode ((split_once 43 bs).0) ++ 32 ∷ decode ((split_once 43 bs).1)
at_plus bs h = ap percent_decode (plus_replaced bs h)
    ∙ space_decoded ((split_once 43 bs).0) (map plus_to_space ((split_once 43 bs).1))

-- without a `+` only escapes are decoded
pub no_plus : (bs : List ℕ) → length ((split_once 43 bs).0) ≡ length bs → decode bs ≡ percent_decode bs
no_plus bs h = ap percent_decode (none_replaced bs h)
