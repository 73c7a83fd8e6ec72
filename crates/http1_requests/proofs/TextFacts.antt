-- A target that is not UTF-8: `examples::targets_are_text`.
use Rattle.std.proofs.Common.{◌≡◌, ◌≤◌, ℕ, Bool, true, false, ◌&&◌, List, [], ◌∷◌, refl, ap, arith, Some, None, if◌then◌else◌, bytes_eq, length, nat_lt, nat_le, lit<, lit≤}
use Rattle.std.specs.List.{list_all}
use Rattle.std.specs.Str.{is_utf8}
use Rattle.std.proofs.lemmas.Str.{IsUtf8-from_is_utf8, lead_after_ascii}
use Rattle.httparse.specs.Grammar.{is_token, is_uri_byte, RequestHead, print_request}
use Rattle.http1_requests.specs.GrammarReading.{is_field, is_text, checked_head, head_guess, head_in}

-- a byte that goes on stands behind no byte of ASCII
pub no_text : is_utf8 (47 ∷ 128 ∷ []) ≡ false
no_text = by (is_utf8 (47 ∷ 128 ∷ [])) refl
  where
    by : (t : Bool) → is_utf8 (47 ∷ 128 ∷ []) ≡ t → t ≡ false
    by false e = refl
    by true e =
        let utf8 = IsUtf8-from_is_utf8 (47 ∷ 128 ∷ []) e in
        let lead : 192 ≤ 128 = lead_after_ascii (47 ∷ 128 ∷ []) 0 utf8 (lit< tt) (lit< tt) (lit≤ tt) in
        absurd (omega (arith, lead))

-- of a head whose target is no text nothing is read
pub unread : (bytes : List ℕ) → is_text (head_guess bytes).target ≡ false → head_in bytes ≡ None
unfolding head_in
unread bytes e = by (head_guess bytes) e
  where
    last : (a b c d x : Bool) → d ≡ false → (a && (b && (c && (d && x)))) ≡ false
    last false b c d x e = refl
    last true false c d x e = refl
    last true true false d x e = refl
    last true true true false x e = refl
    last true true true true x e = absurd (cc)

    by : (g : RequestHead) → is_text g.target ≡ false → checked_head bytes g ≡ None
    by g e =
        ap (λ (t : Bool). if t && bytes_eq (print_request g) bytes then Some g else None)
        (last (is_token g.method) (nat_lt 0 (length g.target)) (list_all is_uri_byte g.target) (is_text g.target)
        (nat_le g.minor 1 && list_all is_field g.fields) e)
