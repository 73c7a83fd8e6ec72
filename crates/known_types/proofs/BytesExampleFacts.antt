-- The worked examples of bytes as text, computed.
use Rattle.std.proofs.Common.{◌≡◌, ◌<◌, ℕ, List, [], ◌∷◌, None, codes, map, refl, ap, arith, inl, inr, zero, suc}
use Rattle.std.specs.Result.{result_ok}
use Rattle.base64.proofs.EngineFacts.{decode_of-encode_of}
use Rattle.base64.proofs.OnLiterals.{base64_on_literals}
use Rattle.base64.specs.Engines.{standard, standard_no_pad}
use Rattle.base64.specs.GeneralPurpose.{IsBytes, IsConsistent, decoded_of}
use Rattle.base64.specs.declared.engine.general_purpose.GeneralPurpose.{GeneralPurpose}
use Rattle.known_types.specs.BytesExamples.{BytesExamplesHold}
use Rattle.known_types.specs.BytesTexts.{IsBytesText, IsEncodingBy, standard_symbol}

-- what an engine does not decode is no encoding by it
not_decoded : (e : GeneralPurpose) (text b : List ℕ) → IsConsistent e → decoded_of e text ≡ None
    → IsEncodingBy e text b → ⊥
unfolding decoded_of
not_decoded e text b consistent none x =
    let some = ap result_ok (decode_of-encode_of e b consistent x.bytes_are) in
    let same = ap (decoded_of e) x.spelled in
    absurd (cc)

-- so what neither engine decodes spells nothing
spells_none : (text b : List ℕ) → decoded_of standard (map standard_symbol text) ≡ None
    → decoded_of standard_no_pad (map standard_symbol text) ≡ None → IsBytesText text b → ⊥
spells_none text b padded unpadded (inl e) = not_decoded standard _ b refl padded e
spells_none text b padded unpadded (inr e) = not_decoded standard_no_pad _ b refl unpadded e

-- two bytes
two_bytes : (a b : ℕ) → a < 256 → b < 256 → IsBytes (a ∷ b ∷ [])
two_bytes a b first second zero = first
two_bytes a b first second (suc zero) = second
two_bytes a b first second (suc (suc i)) = omega arith

f_o : IsBytes (codes "fo")
f_o = two_bytes 102 111 (omega arith) (omega arith)

last_two : IsBytes (251 ∷ 255 ∷ [])
last_two = two_bytes 251 255 (omega arith) (omega arith)

-- the examples hold
pub examples_hold : BytesExamplesHold
unfolding base64_on_literals
examples_hold = record {
  none = refl;
  one = refl;
  two = refl;
  three = refl;
  four = refl;
  five = refl;
  six = refl;
  high = refl;
  padded = inl (record { bytes_are = f_o; spelled = refl });
  unpadded = inr (record { bytes_are = f_o; spelled = refl });
  for_urls = inr (record { bytes_are = last_two; spelled = refl });
  mixed = inl (record { bytes_are = last_two; spelled = refl });
  empty = inl (record { bytes_are = λ i. omega arith; spelled = refl });
  half_padded = λ b. spells_none (codes "Zg=") b refl refl;
  unused_bits = λ b. spells_none (codes "Zm9=") b refl refl;
  lone = λ b. spells_none (codes "Z") b refl refl;
  blank = λ b. spells_none (codes "Zm9v\n") b refl refl;
  front = λ b. spells_none (codes "=Zm9") b refl refl;
  middle = λ b. spells_none (codes "Zg==Zg==") b refl refl;
  more = λ b. spells_none (codes "Zm9v====") b refl refl;
}
