-- Elements of a packed list, collected one after another.
use Rattle.std.proofs.Common.{◌≡◌, ◌+◌, ◌-◌, ◌≤◌, ◌<◌, ℕ, zero, suc, true, List, [], ◌∷◌, ◌++◌, length, drop, Ok, Err, arith, refl, ap, sym, ◌∙◌, length-drop, append_assoc, append-nil}
use Rattle.std.proofs.lemmas.List.{drop-drop, drop_all}
use Rattle.schema.specs.Layers.{ItemLayer}
use Rattle.message_types.specs.declared.fields.Scalar.{Scalar}
use Rattle.message_types.specs.declared.fields.Scalar.TheVariants.{Text as TextOf}
use Rattle.message_types.specs.declared.messages.Types.{Types}
use Rattle.wire_format.specs.GoodBytes.{IsGoodText}
use Rattle.wire_format.specs.Scalars.{scalar_of, scalar_wire, elements}
use Rattle.schema.specs.Soundness.{is_packable}
use Rattle.std.specs.Option.{option_to_list}
use Rattle.wire_records.specs.WireRecord.{Payload, Piece, payload_in}
use Rattle.wire_records.specs.declared.fault.WireKind.{WireKind}
use Rattle.base.proofs.SliceLemmas.{drop_one}

elements_skip : (types : Types) (s : Scalar) (skip : ℕ) (bs : List ℕ) → elements types s skip bs ≡ elements types s 0 (drop skip bs)
elements_skip types s zero [] = refl
elements_skip types s (suc skip) [] = refl
elements_skip types s zero (b ∷ bs) = refl
elements_skip types s (suc skip) (b ∷ bs) = elements_skip types s skip bs

elements_begin : (types : Types) (s : Scalar) (bytes : List ℕ) (p : Piece) → 0 < length bytes → 1 ≤ p.to → payload_in (scalar_wire s) bytes ≡ Ok p → elements types s 0 bytes ≡ option_to_list (scalar_of types s p.payload) ++ elements types s 0 (drop p.to bytes)
elements_begin types s [] p l t h = absurd (omega arith)
elements_begin types s (b ∷ bs) p l t h =
    rw (h, drop_one p.to b bs t) (ap (λ (x : List ItemLayer). option_to_list (scalar_of types s p.payload) ++ x) (elements_skip types s (p.to - 1) bs))

elements_end : (types : Types) (s : Scalar) (bytes : List ℕ) (kind : WireKind) → payload_in (scalar_wire s) bytes ≡ Err kind → elements types s 0 bytes ≡ []
elements_end types s [] kind h = refl
elements_end types s (b ∷ bs) kind h = rw h refl

module _ (types : Types) (s : Scalar) (bytes : List ℕ) (at : ℕ) (lt : at < length bytes) (left : List ℕ) (is : left ≡ drop at bytes) (w : ℕ) (wire : w ≡ scalar_wire s) (xs : List ItemLayer) (total : List ItemLayer) (told : xs ++ elements types s 0 (drop at bytes) ≡ total) where
  some_left : 0 < length left
  some_left = rw is (omega (arith, length-drop at bytes))

  -- one element more is collected
  pub elements_more : (p : Piece) (after : List ItemLayer) → 1 ≤ p.to → payload_in w left ≡ Ok p → after ≡ xs ++ option_to_list (scalar_of types s p.payload) → after ++ elements types s 0 (drop (at + p.to) bytes) ≡ total
  elements_more p after t h e =
      let here : payload_in (scalar_wire s) left ≡ Ok p = ap (λ (x : ℕ). payload_in x left) (sym wire) ∙ h in
      let one = option_to_list (scalar_of types s p.payload) in
      let begun : elements types s 0 (drop at bytes) ≡ one ++ elements types s 0 (drop (at + p.to) bytes) =
      ap (elements types s 0) (sym is) ∙ elements_begin types s left p some_left t here ∙ ap (λ (bs : List ℕ). one ++ elements types s 0 bs) (ap (drop p.to) is ∙ drop-drop p.to at bytes) in
      ap (λ (x : List ItemLayer). x ++ elements types s 0 (drop (at + p.to) bytes)) e ∙ append_assoc xs one (elements types s 0 (drop (at + p.to) bytes)) ∙ ap (λ (x : List ItemLayer). xs ++ x) (sym begun) ∙ told

  -- no element is left where one is wrong
  pub elements_stopped : (kind : WireKind) → payload_in w left ≡ Err kind → xs ≡ total
  elements_stopped kind h =
      let here : payload_in (scalar_wire s) left ≡ Err kind = ap (λ (x : ℕ). payload_in x left) (sym wire) ∙ h in
      sym (append-nil xs) ∙ ap (λ (x : List ItemLayer). xs ++ x) (sym (ap (elements types s 0) (sym is) ∙ elements_end types s left kind here)) ∙ told

-- at the end of the elements there is no fault
pub elements_done : (types : Types) (s : Scalar) (bytes : List ℕ) (at : ℕ) (xs : List ItemLayer) (total : List ItemLayer) → length bytes ≤ at → xs ++ elements types s 0 (drop at bytes) ≡ total → xs ≡ total
elements_done types s bytes at xs total le told = sym (append-nil xs) ∙ ap (λ (x : List ItemLayer). xs ++ x) (sym (ap (elements types s 0) (drop_all at bytes le))) ∙ told

-- a packed list is of no text
pub packed_text : (s : Scalar) (p : Payload) → is_packable s ≡ true → IsGoodText s p
packed_text TextOf p h = absurd (cc)
packed_text _ p h = tt
