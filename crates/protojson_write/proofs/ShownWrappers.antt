-- The text of a wrapper is that of a token that is read as the wrapper.
use Rattle.std.proofs.Common.{◌≡◌, ◌∙◌, ◌⊎◌, inl, inr, sym, ap, subst, refl, arith, cond, ℕ, suc, List, [], ◌∷◌, length, Option, Some, None, Ok}
use Rattle.std.specs.List.{AllByRecursion}
use Rattle.message_types.specs.Types.{field_in, fields_of}
use Rattle.message_types.specs.declared.fields.Field.{Field}
use Rattle.message_types.specs.declared.fields.Kind.TheVariants.{One as OneOf, Message as MessageOf}
use Rattle.message_types.specs.declared.fields.Presence.TheVariants.{Implicit, Explicit}
use Rattle.message_types.specs.declared.fields.Scalar.{Scalar}
use Rattle.message_types.specs.declared.fields.Shape.TheVariants.{Single}
use Rattle.message_types.specs.declared.messages.Known.TheVariants.{Wrapper}
use Rattle.message_types.specs.declared.messages.TypeId.{TypeId}
use Rattle.schema.specs.Layers.{ItemLayer, SlotLayer}
use Rattle.schema.specs.Soundness.{HasKnownFields, IsSound, IsValueField}
use Rattle.schema.specs.Validity.{IsFieldSlot, IsItem, IsMessage, IsSlot, valid_within}
use Rattle.schema.specs.Value.{RiseFrom, slot_at, slots_of}
use Rattle.schema.specs.declared.value.Item.TheOpen.{Message, One, Many, Pairs as Entries}
use Rattle.schema.specs.declared.value.Item.{out-Item}
use Rattle.schema.specs.declared.value.Slot.{Slot, out-Slot}
use Rattle.schema.specs.declared.value.Value.{Value}
use Rattle.json_meanings.specs.JsonScalars.{Schema, scalar_as}
use Rattle.json_meanings.specs.PartialMessages.{empty_message, form_of, put_field, stored, value_of}
use Rattle.json_meanings.specs.SpotTables.{as_message, known_of, message_as, scalar_in, wrapped, wrapper_as}
use Rattle.protojson_write.specs.JsonOutput.{absent_text, item_text, message_text, part_text, single_default, slot_text, text_within}
use Rattle.protojson_write.specs.KnownParts.{KnownTexts}
use Rattle.protojson_write.specs.ScalarOutput.{default_of, scalar_text}
use Rattle.protojson_write.specs.ShownMeans.{HasUtf8Names, ItemHoldsBytes, SlotHoldsBytes, holds_bytes_within}
use Rattle.protojson_write.proofs.ShownFields.{found_all, found_number, good_fields}
use Rattle.protojson_write.proofs.ShownDefaults.{default_holds, default_is_default, default_is_scalar}
use Rattle.protojson_write.proofs.ShownScalars.{ScalarsAreReadBack, scalar_shown}
use Rattle.protojson_write.proofs.ShownTokens.{leaf_mark}
use Rattle.protojson_write.proofs.ShownSlots.{stored_back}
use Rattle.protojson_write.proofs.ShownSpots.{HasKindTree}

-- a list of one field has one
one_of_one : (fs : List Field) (n : ℕ) (f g : Field) → length fs ≡ 1 → field_in fs 1 ≡ Some f → field_in fs n ≡ Some g
    → (n ≡ 1) × (g ≡ f)
one_of_one [] n f g len e d = absurd cc
one_of_one (x ∷ y ∷ fs) n f g len e d = absurd (omega (arith, len))
one_of_one (x ∷ []) n f g len e d =
    let at_one = found_number 1 (x ∷ []) f e in
    let at_n = found_number n (x ∷ []) g d in
    let first : x ≡ f = only x 1 f e in
    let second : x ≡ g = only x n g d in
    (sym at_n ∙ (ap (λ h. h.number) (sym second ∙ first) ∙ at_one), sym second ∙ first)
  where
    only : (x : Field) (n : ℕ) (f : Field) → field_in (x ∷ []) n ≡ Some f → x ≡ f
    only x n f e = found_all (λ h. x ≡ h) n (x ∷ []) f (refl, tt) e

-- the slots of a wrapper: none, or that of its value
wrapper_slots : (fs : List Field) (f : Field) (es : List (ℕ × Slot)) (Fits : Option Field → Slot → Type 0)
    → ((s : Slot) → Fits None s → ⊥)
    → length fs ≡ 1 → field_in fs 1 ≡ Some f → RiseFrom 0 es
    → AllByRecursion (λ (e : ℕ × Slot). Fits (field_in fs e.0) e.1) es
    → (es ≡ []) ⊎ ((s : Slot) × (es ≡ (1, s) ∷ []) × Fits (Some f) s)
wrapper_slots fs f [] Fits none len found rise all = inl refl
wrapper_slots fs f (e ∷ es) Fits none len found rise all =
    let first = is_one e all.0 in
    inr (
      e.1,
      by_rest es rise.1 all.1 first ∙ ap (λ n. (n, e.1) ∷ []) first,
      subst (λ o. Fits o e.1) (ap (field_in fs) first ∙ found) all.0,
    )
  where
    is_one : (d : ℕ × Slot) → Fits (field_in fs d.0) d.1 → d.0 ≡ 1
    is_one d h = by_field (field_in fs d.0) refl h
      where
        by_field : (o : Option Field) → field_in fs d.0 ≡ o → Fits o d.1 → d.0 ≡ 1
        by_field None q fit = absurd (none d.1 fit)
        by_field (Some g) q fit = (one_of_one fs d.0 f g len found q).0

    by_rest : (rest : List (ℕ × Slot)) → RiseFrom e.0 rest
        → AllByRecursion (λ (d : ℕ × Slot). Fits (field_in fs d.0) d.1) rest → e.0 ≡ 1 → e ∷ rest ≡ (e.0, e.1) ∷ []
    by_rest [] r a one = refl
    by_rest (d ∷ rest) r a one = let two = is_one d a.0 in let less = r.0 in absurd (omega (arith, one, two, less))

module _ (laws : ScalarsAreReadBack) (texts : KnownTexts) (c : Schema) (sound : IsSound c.types)
    (utf8 : HasUtf8Names c.types) where
  -- a scalar that is read as the value of a wrapper
  wrapped_scalar : (k : ℕ) (id : TypeId) (f : Field) (s : Scalar) (i : ItemLayer) (Holds : Value → Type 0) (v : Value)
      → known_of c.types id ≡ Wrapper → field_in (fields_of c.types id) 1 ≡ Some f → f.kind ≡ OneOf s
      → IsItem (valid_within k c.types) (OneOf s) i → ItemHoldsBytes Holds i
      → value_of (put_field empty_message (form_of f) (stored f.presence i)) ≡ v
      → HasKindTree c (suc k) (MessageOf id) (Message v) (scalar_text c.types s i)
  wrapped_scalar k id f s i Holds v known found kind valid bytes whole =
      let t = scalar_shown laws c.types sound utf8 Holds s i valid bytes in
      let scalar = ap (λ x. scalar_as c.types (scalar_in x) (leaf_mark t.0)) kind ∙ t.2 in
      inl (record {
        leaf = t.0;
        text = t.1;
        reads =
            ap (λ w. message_as c (suc k) w (fields_of c.types id) (leaf_mark t.0)) known
            ∙ (ap (λ o. as_message (wrapper_as c o (leaf_mark t.0))) found
            ∙ (ap (λ r. as_message (wrapped (Some f) r)) scalar ∙ ap (λ x. Ok (Message x)) whole));
      })

  module _ (k m : ℕ) (id : TypeId) (v : Value) (known : known_of c.types id ≡ Wrapper) (f : Field) (s : Scalar)
      (found : field_in (fields_of c.types id) 1 ≡ Some f) (kind : f.kind ≡ OneOf s) (shape : f.shape ≡ Single)
      (presence : f.presence ≡ Implicit) where
    -- a text of the wrapper
    abbrev IsShownAs : List ℕ → Type 0
    IsShownAs w = HasKindTree c (suc k) (MessageOf id) (Message v) w

    -- the text of its field
    abbrev field_shown : Option Slot → List ℕ
    field_shown o = part_text (text_within texts m c.types) c.types (Some f) o

    absent_is : absent_text c.types f f.shape ≡ scalar_text c.types s (default_of s)
    absent_is =
        ap (λ x. absent_text c.types f x) shape
        ∙ (ap (λ p. single_default c.types p f.kind) presence ∙ ap (λ x. single_default c.types Implicit x) kind)

    absent_shown : slots_of v ≡ [] → IsShownAs (field_shown (slot_at v 1))
    absent_shown none =
        subst (λ es. IsShownAs (field_shown (slot_at (record { fields = es }) 1))) (sym none)
        (subst IsShownAs (sym absent_is)
        (wrapped_scalar k id f s (default_of s) (holds_bytes_within m) v known found kind (default_is_scalar s)
        (default_holds (holds_bytes_within m) s)
        (ap (λ p. value_of (put_field empty_message (form_of f) (stored p (default_of s)))) presence
        ∙ (ap (λ b. value_of (put_field empty_message (form_of f) (cond b None (stored Explicit (default_of s)))))
        (default_is_default s)
        ∙ ap (λ es. record { fields = es }) (sym none)))))

    present_shown : (sl : Slot) → slots_of v ≡ (1, sl) ∷ [] → IsFieldSlot (valid_within k c.types) (Some f) sl
        → SlotHoldsBytes (holds_bytes_within m) (out-Slot sl)
        → IsShownAs (field_shown (slot_at v 1))
    present_shown sl one fit bytes =
        subst (λ es. IsShownAs (field_shown (slot_at (record { fields = es }) 1))) (sym one)
        (by_layer (out-Slot sl) refl (subst (λ x. IsSlot (valid_within k c.types) f x (out-Slot sl)) shape fit) bytes)
      where
        by_layer : (l : SlotLayer) → out-Slot sl ≡ l → IsSlot (valid_within k c.types) f Single l
            → SlotHoldsBytes (holds_bytes_within m) l
            → IsShownAs (slot_text (text_within texts m c.types) c.types f.kind l)
        by_layer (One i) e is holds =
            subst (λ x. IsShownAs (item_text (text_within texts m c.types) c.types x (out-Item i))) (sym kind)
            (wrapped_scalar k id f s (out-Item i) (holds_bytes_within m) v known found kind
            (subst (λ x. IsItem (valid_within k c.types) x (out-Item i)) kind is.0) holds
            (ap (λ o. value_of (put_field empty_message (form_of f) o)) (stored_back f.presence i sl e is.1)
            ∙ (ap (λ n. record { fields = (n, sl) ∷ [] }) (found_number 1 (fields_of c.types id) f found)
            ∙ ap (λ es. record { fields = es }) (sym one))))
        by_layer (Many is) e h holds = absurd h
        by_layer (Entries p) e h holds = absurd h

    slots_shown : AllByRecursion (λ (e : ℕ × Slot). SlotHoldsBytes (holds_bytes_within m) (out-Slot e.1)) (slots_of v)
        → (slots_of v ≡ [])
        ⊎ ((sl : Slot) × (slots_of v ≡ (1, sl) ∷ []) × IsFieldSlot (valid_within k c.types) (Some f) sl)
        → IsShownAs (field_shown (slot_at v 1))
    slots_shown bytes (inl none) = absent_shown none
    slots_shown bytes (inr h) =
        present_shown h.0 h.1 h.2
        (subst (AllByRecursion (λ (e : ℕ × Slot). SlotHoldsBytes (holds_bytes_within m) (out-Slot e.1))) h.1 bytes).0

  -- a wrapper
  pub wrapper_shown : (k m : ℕ) (id : TypeId) (v : Value) → known_of c.types id ≡ Wrapper
      → IsMessage (valid_within k c.types) c.types id v
      → AllByRecursion (λ (e : ℕ × Slot). SlotHoldsBytes (holds_bytes_within m) (out-Slot e.1)) (slots_of v)
      → HasKindTree c (suc k) (MessageOf id) (Message v)
      (message_text texts (text_within texts m c.types) c.types id Wrapper v)
  wrapper_shown k m id v known valid bytes =
      by_field (field_in (fields_of c.types id) 1) refl fields_known.0 fields_known.1
    where
      fields_known : HasKnownFields Wrapper (fields_of c.types id)
      fields_known = subst (λ w. HasKnownFields w (fields_of c.types id)) known (good_fields c.types sound utf8 id).form

      by_field : (o : Option Field) → field_in (fields_of c.types id) 1 ≡ o → length (fields_of c.types id) ≡ 1
          → IsValueField o
          → HasKindTree c (suc k) (MessageOf id) (Message v)
          (part_text (text_within texts m c.types) c.types o (slot_at v 1))
      by_field None e len q = absurd q.2
      by_field (Some f) e len q =
          slots_shown k m id v known f q.0 e q.2.1.0 q.2.1.1 q.2.1.2 bytes
          (wrapper_slots (fields_of c.types id) f (slots_of v) (IsFieldSlot (valid_within k c.types)) (λ x n. n) len e
          valid.rising valid.slots)
