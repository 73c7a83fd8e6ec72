-- Encodings by the padded and by the unpadded engine: how long they are, and what they encode.
use Rattle.std.proofs.Common.{◌≡◌, ◌%◌, ◌<◌, ◌≤◌, ◌⊎◌, ℕ, zero, suc, false, nat_eq, subst, List, [], ◌∷◌, ◌++◌, length, map, replicate, slice_index, refl, sym, ap, ap₂, ◌∙◌, arith, inl, inr, Ok, Err, Result, unwrap_or}
use Rattle.std.proofs.lemmas.List.{get_or-map, get_or_past, length-append, length-replicate, map-append}
use Rattle.std.proofs.lemmas.Bool.{cases_lt, or_parts}
use Rattle.std.proofs.lemmas.Bool.Decides.{nat_tests}
use Rattle.std.specs.List.{list_any}
use Rattle.std.specs.Result.{result_ok}
use Rattle.base.specs.declared.blob.Blob.{Blob}
use Rattle.base64.proofs.EngineFacts.{decode_of-encode_of}
use Rattle.base64.proofs.OnLiterals.{base64_on_literals}
use Rattle.base64.proofs.RoundTrip.{length-encode_symbols}
use Rattle.base64.specs.Engines.{standard, standard_no_pad}
use Rattle.base64.specs.GeneralPurpose.{IsBytes, IsConsistent, decode_of, encode_of, engine_symbols}
use Rattle.base64.specs.Rfc4648.{encode_symbols, padding_len}
use Rattle.base64.specs.declared.engine.general_purpose.GeneralPurpose.{GeneralPurpose}
use Rattle.known_types.specs.declared.fault.TextFault.{TextFault}
use Rattle.known_types.specs.declared.fault.TextFault.TheVariants.{BadText, OutOfRange, NoMemory}
use Rattle.known_types.specs.BytesTexts.{IsBytesReading, IsBytesText, IsEncodingBy, IsReadingBy, IsStandardReading, IsStandardText, bytes_text, has_symbols_for_urls, standard_symbol}

-- a padded encoding has whole groups of four
pub padded_groups : (b : List ℕ) → length (encode_of standard b) % 4 ≡ 0
padded_groups b =
    let symbols = length-encode_symbols (engine_symbols standard) b in
    let all = length-append (encode_symbols (engine_symbols standard) b) (replicate (padding_len (length b)) 61) in
    omega (arith, symbols, all, length-replicate {A = ℕ} (padding_len (length b)) 61)

-- where no padding is wanted, both engines write the same
pub unpadded_groups : (b : List ℕ) → length (encode_of standard_no_pad b) % 4 ≡ 0
    → encode_of standard_no_pad b ≡ encode_of standard b
unpadded_groups b whole =
    let symbols = length-encode_symbols (engine_symbols standard) b in
    let all = length-append (encode_symbols (engine_symbols standard) b) [] in
    let none : padding_len (length b) ≡ 0 = omega (arith, symbols, all, whole) in
    ap (λ n. encode_symbols (engine_symbols standard) b ++ replicate n 61) (sym none)

-- one engine encodes one list of bytes as a text
pub one_encoding : (e : GeneralPurpose) (text a b : List ℕ) → IsConsistent e
    → IsEncodingBy e text a → IsEncodingBy e text b → a ≡ b
one_encoding e text a b consistent x y =
    let same : encode_of e a ≡ encode_of e b = sym x.spelled ∙ y.spelled in
    ap (λ r. unwrap_or (result_ok r) a)
    (sym (decode_of-encode_of e a consistent x.bytes_are)
    ∙ (ap (decode_of e) same ∙ decode_of-encode_of e b consistent y.bytes_are))

-- a text of whole groups that the unpadded engine writes is what the padded one writes
pub as_padded : (text b : List ℕ) → length text % 4 ≡ 0
    → IsEncodingBy standard_no_pad text b → IsEncodingBy standard text b
as_padded text b whole e =
    let groups : length (encode_of standard_no_pad b) % 4 ≡ 0 = ap (λ t. length t % 4) (sym e.spelled) ∙ whole in
    record { bytes_are = e.bytes_are; spelled = e.spelled ∙ unpadded_groups b groups }

-- a padded text has whole groups
pub whole_groups : (text b : List ℕ) → IsEncodingBy standard text b → length text % 4 ≡ 0
whole_groups text b e = ap (λ t. length t % 4) e.spelled ∙ padded_groups b

-- a text spells one list of bytes
pub one_meaning : (text a b : List ℕ) → IsStandardText text a → IsStandardText text b → a ≡ b
one_meaning text a b (inl x) (inl y) = one_encoding standard text a b refl x y
one_meaning text a b (inr x) (inr y) = one_encoding standard_no_pad text a b refl x y
one_meaning text a b (inl x) (inr y) =
    one_encoding standard text a b refl x (as_padded text b (whole_groups text a x) y)
one_meaning text a b (inr x) (inl y) =
    one_encoding standard text a b refl (as_padded text a (whole_groups text b y) x) y

-- a text of whole groups is read by the padded engine
pub read_whole : (text : List ℕ) (r : Result Blob TextFault)
    → length text % 4 ≡ 0 → IsReadingBy standard text r → IsStandardReading text r
read_whole text (Ok b) whole e = inl e
read_whole text (Err BadText) whole none = bad
  where
    bad : (b : List ℕ) → IsStandardText text b → ⊥
    bad b (inl e) = none b e
    bad b (inr e) = none b (as_padded text b whole e)
read_whole text (Err OutOfRange) whole e = absurd e
read_whole text (Err NoMemory) whole e = tt

-- any other by the unpadded one
pub read_rest : (text : List ℕ) (r : Result Blob TextFault)
    → (length text % 4 ≡ 0 → ⊥) → IsReadingBy standard_no_pad text r → IsStandardReading text r
read_rest text (Ok b) part e = inr e
read_rest text (Err BadText) part none = bad
  where
    bad : (b : List ℕ) → IsStandardText text b → ⊥
    bad b (inl e) = part (whole_groups text b e)
    bad b (inr e) = none b e
read_rest text (Err OutOfRange) part e = absurd e
read_rest text (Err NoMemory) part e = tt

-- a symbol of a table whose symbols stay is one that stays
symbol_stays : (t : List ℕ) (v : ℕ) → map standard_symbol t ≡ t → standard_symbol (slice_index t v) ≡ slice_index t v
symbol_stays t v stays = by_place (cases_lt v (length t))
  where
    by_place : ((v < length t) ⊎ (length t ≤ v)) → standard_symbol (slice_index t v) ≡ slice_index t v
    by_place (inl within) = sym (get_or-map standard_symbol t v 0 0 within) ∙ ap (λ l. slice_index l v) stays
    by_place (inr past) = ap standard_symbol (get_or_past t v 0 past) ∙ sym (get_or_past t v 0 past)

-- so what is written by it stays
symbols_stay : (t m : List ℕ)
    → map standard_symbol t ≡ t → map standard_symbol (encode_symbols t m) ≡ encode_symbols t m
unfolding encode_symbols
symbols_stay t [] stays = refl
symbols_stay t (a ∷ []) stays = ap₂ (λ x y. x ∷ y ∷ []) (symbol_stays t _ stays) (symbol_stays t _ stays)
symbols_stay t (a ∷ b ∷ []) stays =
    ap₂ (λ x ys. x ∷ ys) (symbol_stays t _ stays)
    (ap₂ (λ x y. x ∷ y ∷ []) (symbol_stays t _ stays) (symbol_stays t _ stays))
symbols_stay t (a ∷ b ∷ c ∷ rest) stays =
    ap₂ (λ x ys. x ∷ ys) (symbol_stays t _ stays)
    (ap₂ (λ x ys. x ∷ ys) (symbol_stays t _ stays)
    (ap₂ (λ x ys. x ∷ ys) (symbol_stays t _ stays)
    (ap₂ (λ x ys. x ∷ ys) (symbol_stays t _ stays) (symbols_stay t rest stays))))

-- and padding stays
padding_stays : (n : ℕ) → map standard_symbol (replicate n 61) ≡ replicate n 61
padding_stays zero = refl
padding_stays (suc n) = ap (λ ys. 61 ∷ ys) (padding_stays n)

-- what is written for bytes is by the standard alphabet alone
written_stays : (b : List ℕ) → map standard_symbol (encode_of standard b) ≡ encode_of standard b
unfolding base64_on_literals
written_stays b =
    map-append standard_symbol (encode_symbols (engine_symbols standard) b) (replicate (padding_len (length b)) 61)
    ∙ ap₂ (λ xs ys. xs ++ ys) (symbols_stay (engine_symbols standard) b refl) (padding_stays (padding_len (length b)))

-- what is written for bytes spells them
pub written_spells : (b : List ℕ) → IsBytes b → IsBytesText (bytes_text b) b
written_spells b bytes = inl (record { bytes_are = bytes; spelled = written_stays b })

-- and no others
pub written_apart : (a b : List ℕ) → IsBytes a → IsBytes b → bytes_text a ≡ bytes_text b → a ≡ b
written_apart a b first second same =
    one_encoding standard (bytes_text b) a b refl (record { bytes_are = first; spelled = sym same })
    (record { bytes_are = second; spelled = refl })

-- a text without symbols for URLs is by the standard alphabet
pub text_stays : (text : List ℕ) → has_symbols_for_urls text ≡ false → map standard_symbol text ≡ text
text_stays text none = let parts = or_parts _ _ none in by_lists text parts.0 parts.1
  where
    by_lists : (t : List ℕ)
        → list_any (λ b. nat_eq b 45) t ≡ false → list_any (λ b. nat_eq b 95) t ≡ false → map standard_symbol t ≡ t
    by_lists [] minus under = refl
    by_lists (b ∷ t) minus under = grind (arith, nat_tests, by_lists t)

-- what is read of it by the standard alphabet is what is read
pub read_as_it_is : (text : List ℕ) (r : Result Blob TextFault)
    → has_symbols_for_urls text ≡ false → IsStandardReading text r → IsBytesReading text r
read_as_it_is text r none e = subst (λ t. IsStandardReading t r) (sym (text_stays text none)) e
