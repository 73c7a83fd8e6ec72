-- The bytes that are computed of a text are those that it spells.
use Rattle.std.proofs.Common.{◌≡◌, ◌∙◌, ◌<◌, ◌↔◌, inl, inr, sym, ap, refl, arith, cond, eqb, map, ℕ, zero, suc, Bool, true, false, List, [], ◌∷◌, Option, Some, None, Result, Ok, Err}
use Rattle.std.specs.Result.{result_ok}
use Rattle.base64.proofs.EngineFacts.{decode_of-encode_of, decode_of_bytes, decode_of_strict}
use Rattle.base64.specs.Engines.{standard, standard_no_pad}
use Rattle.base64.specs.GeneralPurpose.{IsBytes, IsConsistent, IsStrict, decode_of, decoded_of}
use Rattle.base64.specs.declared.decode.DecodeError.{DecodeError}
use Rattle.base64.specs.declared.engine.general_purpose.GeneralPurpose.{GeneralPurpose}
use Rattle.known_types.specs.BytesTexts.{IsBytesText, IsEncodingBy, standard_symbol}
use Rattle.json_meanings.specs.SpelledBytes.{either_of, spelled_bytes}
use Rattle.json_meanings.proofs.DecodedLemmas.{decoded_are}

symbol_byte : (b : ℕ) → b < 256 → standard_symbol b < 256
symbol_byte b h = by_minus (eqb b 45)
  where
    by_under : (t : Bool) → cond t 47 b < 256
    by_under true = omega arith
    by_under false = h

    by_minus : (t : Bool) → cond t 43 (cond (eqb b 95) 47 b) < 256
    by_minus true = omega arith
    by_minus false = by_under (eqb b 95)

symbols_are : (text : List ℕ) → IsBytes text → IsBytes (map standard_symbol text)
symbols_are [] h i = h i
symbols_are (b ∷ text) h zero = symbol_byte b (h 0)
symbols_are (b ∷ text) h (suc i) = symbols_are text (λ k. h (suc k)) i

-- what an engine encodes it decodes
decoded : (e : GeneralPurpose) (text b : List ℕ) → IsConsistent e → IsEncodingBy e text b → decoded_of e text ≡ Some b
unfolding decoded_of
decoded e text b consistent x =
    ap (decoded_of e) x.spelled ∙ ap result_ok (decode_of-encode_of e b consistent x.bytes_are)

-- and what a strict one decodes it encodes
encoded : (e : GeneralPurpose) (text b : List ℕ) → IsStrict e → IsBytes text → decoded_of e text ≡ Some b
    → IsEncodingBy e text b
unfolding decoded_of
encoded e text b strict bytes is =
    let ok = ok_of (decode_of e text) is in
    record {
      bytes_are = decode_of_bytes e text b (decoded_are e text b bytes ok) ok;
      spelled = decode_of_strict e text b strict bytes ok;
    }
  where
    ok_of : (r : Result (List ℕ) DecodeError) → result_ok r ≡ Some b → r ≡ Ok b
    ok_of (Ok x) h = ap Ok (cc h)
    ok_of (Err x) h = absurd (cc h)

module _ (one : (text a b : List ℕ) → IsBytesText text a → IsBytesText text b → a ≡ b) (text : List ℕ)
    (bytes : IsBytes text) where
  spells : (b : List ℕ) → (o : Option (List ℕ)) → decoded_of standard (map standard_symbol text) ≡ o
      → either_of o (decoded_of standard_no_pad (map standard_symbol text)) ≡ Some b → IsBytesText text b
  spells b (Some a) e is =
      inl (encoded standard (map standard_symbol text) b (refl, refl) (symbols_are text bytes) (e ∙ is))
  spells b None e is =
      inr (encoded standard_no_pad (map standard_symbol text) b (refl, refl) (symbols_are text bytes) is)

  found : (b : List ℕ) → IsBytesText text b → (o : Option (List ℕ)) → decoded_of standard (map standard_symbol text) ≡ o
      → either_of o (decoded_of standard_no_pad (map standard_symbol text)) ≡ Some b
  found b h (Some a) e =
      ap Some (one text a b
      (inl (encoded standard (map standard_symbol text) a (refl, refl) (symbols_are text bytes) e)) h)
  found b (inl x) None e = absurd (no_padded (sym e ∙ decoded standard (map standard_symbol text) b refl x))
    where
      no_padded : ◌≡◌ {A = Option (List ℕ)} None (Some b) → ⊥
      no_padded p = cc p
  found b (inr x) None e = decoded standard_no_pad (map standard_symbol text) b refl x

  -- a text spells bytes exactly where they are computed
  pub spelled_is : (b : List ℕ) → IsBytesText text b ↔ (spelled_bytes text ≡ Some b)
  spelled_is b = (λ h. found b h _ refl, λ e. spells b _ refl e)
