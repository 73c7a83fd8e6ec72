-- The text of a message of so many levels is that of a tree that is read as the message.
use Rattle.std.proofs.Common.{◌≡◌, ◌∙◌, ◌≤◌, inl, inr, sym, ap, subst, refl, arith, ℕ, zero, suc, true, List, [], ◌∷◌, Option, Some, None}
use Rattle.std.specs.Prelude.{is_some, unwrap_or}
use Rattle.std.specs.List.{AllByRecursion}
use Rattle.std.proofs.lemmas.Bool.{and_parts}
use Rattle.message_types.specs.Types.{field_in, fields_of}
use Rattle.message_types.specs.declared.fields.Field.{Field}
use Rattle.message_types.specs.declared.fields.Kind.TheVariants.{Message as MessageOf}
use Rattle.message_types.specs.declared.messages.Known.{Known}
use Rattle.message_types.specs.declared.messages.Known.TheVariants.{Plain, Timestamp, Duration, FieldMask, Wrapper}
use Rattle.message_types.specs.declared.messages.TypeId.{TypeId}
use Rattle.message_types.specs.declared.messages.Types.{Types}
use Rattle.schema.specs.Soundness.{IsSound, IsSoundField}
use Rattle.schema.specs.Validity.{AreFieldSlots, IsFieldSlot, IsMessage, valid_within}
use Rattle.schema.specs.Value.{slots_of}
use Rattle.schema.specs.declared.value.Item.TheOpen.{Message}
use Rattle.schema.specs.declared.value.Slot.{Slot, out-Slot}
use Rattle.schema.specs.declared.value.Value.{Value}
use Rattle.json_events.specs.JsonTree.{text}
use Rattle.json_meanings.specs.JsonScalars.{Schema}
use Rattle.json_meanings.specs.PartialMessages.{empty_message}
use Rattle.json_meanings.specs.ReadingSpots.{of_message}
use Rattle.json_meanings.specs.SpotTables.{as_message, below, known_of, message_as, message_by}
use Rattle.json_meanings.specs.TextTypes.{IsTextType}
use Rattle.protojson_write.specs.JsonOutput.{member_text, message_text, slot_text, text_within}
use Rattle.protojson_write.specs.KnownParts.{KnownTexts, field_parts, have_texts, own_parts, parts_within, slots_parts}
use Rattle.protojson_write.specs.ScalarOutput.{quoted}
use Rattle.protojson_write.specs.ShownMeans.{AreReadBack, HasUtf8Names, SlotHoldsBytes, holds_bytes_within}
use Rattle.protojson_write.proofs.ShownFields.{HasGoodFields, found_all, good_fields}
use Rattle.protojson_write.proofs.ShownMembers.{HasMember, all_members}
use Rattle.protojson_write.proofs.ShownScalars.{ScalarsAreReadBack}
use Rattle.protojson_write.proofs.ShownSlots.{MessagesShown, parts_all, slot_shown}
use Rattle.protojson_write.proofs.ShownSpots.{HasKindTree}
use Rattle.protojson_write.proofs.ShownTokens.{text_leaf}
use Rattle.protojson_write.proofs.ShownWrappers.{wrapper_shown}
use Rattle.protojson_write.proofs.TreeTexts.{object_tree}

-- one level opened
no_levels : (types : Types) (id : TypeId) (v : Value) → (valid_within 0 types).message id v → ⊥
unfolding valid_within
no_levels types id v h = h

-- a message of one level more
pub open_valid : (k : ℕ) (types : Types) (id : TypeId) (v : Value) → (valid_within (suc k) types).message id v
    → IsMessage (valid_within k types) types id v
unfolding valid_within
open_valid k types id v h = h

open_text : (texts : KnownTexts) (m : ℕ) (types : Types) (id : TypeId) (v : Value)
    → text_within texts (suc m) types id v
    ≡ message_text texts (text_within texts m types) types id (known_of types id) v
unfolding text_within
open_text texts m types id v = refl

open_parts : (m : ℕ) (types : Types) (id : TypeId) (v : Value)
    → parts_within (suc m) types id v
    ≡ own_parts (known_of types id) v (slots_parts (parts_within m types) (fields_of types id) (slots_of v))
unfolding parts_within
open_parts m types id v = refl

-- the bytes in a message of one level more
pub open_bytes : (m : ℕ) (v : Value) → holds_bytes_within (suc m) v
    → AllByRecursion (λ (e : ℕ × Slot). SlotHoldsBytes (holds_bytes_within m) (out-Slot e.1)) (slots_of v)
unfolding holds_bytes_within
open_bytes m v h = h

module _ (laws : ScalarsAreReadBack) (texts : KnownTexts) (c : Schema) (sound : IsSound c.types)
    (utf8 : HasUtf8Names c.types) (agree : AreReadBack texts c) where
  -- the members of a plain message
  plain_members : (k m : ℕ) → MessagesShown texts c k m → MessagesShown texts c (below k) m → (id : TypeId)
      → (good : HasGoodFields c.types (known_of c.types id) (fields_of c.types id)) → (es : List (ℕ × Slot))
      → AreFieldSlots (valid_within k c.types) (fields_of c.types id) es
      → AllByRecursion (λ (e : ℕ × Slot).
      have_texts texts (field_parts (parts_within m c.types) (field_in (fields_of c.types id) e.0) e.1) ≡ true) es
      → AllByRecursion (λ (e : ℕ × Slot). SlotHoldsBytes (holds_bytes_within m) (out-Slot e.1)) es
      → AllByRecursion
      (HasMember c k id good.apart laws.strings (λ (e : ℕ × Slot).
      member_text (text_within texts m c.types) c.types (field_in (fields_of c.types id) e.0) e.1)) es
  plain_members k m inner inmost id good [] valid known bytes = tt
  plain_members k m inner inmost id good (e ∷ es) valid known bytes = (
    by_field (field_in (fields_of c.types id) e.0) refl valid.0 known.0,
    plain_members k m inner inmost id good es valid.1 known.1 bytes.1,
  )
    where
      by_field : (o : Option Field) → field_in (fields_of c.types id) e.0 ≡ o
          → IsFieldSlot (valid_within k c.types) o e.1
          → have_texts texts (field_parts (parts_within m c.types) o e.1) ≡ true
          → HasMember c k id good.apart laws.strings (λ (d : ℕ × Slot).
          member_text (text_within texts m c.types) c.types (field_in (fields_of c.types id) d.0) d.1) e
      by_field None q fit has = absurd fit
      by_field (Some f) q fit has =
          let field_sound = found_all (IsSoundField c.types) e.0 (fields_of c.types id) f good.sound q in
          record {
            field = f;
            slot_text = slot_text (text_within texts m c.types) c.types f.kind (out-Slot e.1);
            found = q;
            utf8 = found_all _ e.0 (fields_of c.types id) f good.utf8 q;
            text = ap (λ o. member_text (text_within texts m c.types) c.types o e.1) q;
            reads = λ spot at.
                slot_shown laws texts c sound utf8 m k inner inmost f spot e.1 field_sound.shape at fit has bytes.0;
          }

  -- a message that is written by its members
  plain_shown : (k m : ℕ) → MessagesShown texts c k m → MessagesShown texts c (below k) m → (id : TypeId) (v : Value)
      → known_of c.types id ≡ Plain → IsMessage (valid_within k c.types) c.types id v
      → have_texts texts (slots_parts (parts_within m c.types) (fields_of c.types id) (slots_of v)) ≡ true
      → AllByRecursion (λ (e : ℕ × Slot). SlotHoldsBytes (holds_bytes_within m) (out-Slot e.1)) (slots_of v)
      → HasKindTree c (suc k) (MessageOf id) (Message v)
      (message_text texts (text_within texts m c.types) c.types id Plain v)
  plain_shown k m inner inmost id v plain valid has bytes =
      let good = good_fields c.types sound utf8 id in
      let each =
      plain_members k m inner inmost id good (slots_of v) valid.slots
      (parts_all _ (λ (e : ℕ × Slot). field_parts (parts_within m c.types) (field_in (fields_of c.types id) e.0) e.1)
      (slots_of v) has)
      bytes in
      let whole = all_members c k id good.apart laws.strings _ (slots_of v) each valid.rising valid.oneofs in
      inr (record {
        pairs = whole.ps;
        opened = of_message k id empty_message;
        text = object_tree whole.ps _ whole.text;
        opens = ap (λ w. message_by (suc k) w id) plain;
        reads = whole.reads;
      })

  -- a message that is written as a text
  text_shown : (k m : ℕ) (id : TypeId) (v : Value) (known : Known) → known_of c.types id ≡ known → IsTextType known
      → (message_text texts (text_within texts m c.types) c.types id known v ≡ quoted (unwrap_or (texts known v) []))
      → ((t : List ℕ) → message_as c (suc k) known (fields_of c.types id) (text t) ≡ as_message (c.known known t))
      → (valid_within (suc k) c.types).message id v → is_some (texts known v) ≡ true
      → HasKindTree c (suc k) (MessageOf id) (Message v)
      (message_text texts (text_within texts m c.types) c.types id known v)
  text_shown k m id v known is kind spelled read valid some =
      subst (HasKindTree c (suc k) (MessageOf id) (Message v)) (sym spelled) (by_text (texts known v) refl some)
    where
      by_text : (o : Option (List ℕ)) → texts known v ≡ o → is_some o ≡ true
          → HasKindTree c (suc k) (MessageOf id) (Message v) (quoted (unwrap_or o []))
      by_text None e h = absurd cc
      by_text (Some t) e h =
          let back = agree id k v t (subst IsTextType (sym is) kind) valid (ap (λ w. texts w v) is ∙ e) in
          inl (record {
            leaf = text_leaf t;
            text = back.0;
            reads =
                ap (λ w. message_as c (suc k) w (fields_of c.types id) (text t)) is
                ∙ (read t ∙ ap as_message (ap (λ w. c.known w t) (sym is) ∙ back.1));
          })

  -- a message of one level more
  step : (k m : ℕ) → MessagesShown texts c k m → MessagesShown texts c (below k) m
      → MessagesShown texts c (suc k) (suc m)
  step k m inner inmost id v valid has bytes =
      subst (HasKindTree c (suc k) (MessageOf id) (Message v)) (sym (open_text texts m c.types id v))
      (by_known (known_of c.types id) refl (subst (λ ps. have_texts texts ps ≡ true) (open_parts m c.types id v) has))
    where
      some_text : (known : Known) → have_texts texts ((known, v) ∷ []) ≡ true → is_some (texts known v) ≡ true
      some_text known h = (and_parts (is_some (texts known v)) true h).0

      by_known : (known : Known) → known_of c.types id ≡ known → have_texts texts
          (own_parts known v (slots_parts (parts_within m c.types) (fields_of c.types id) (slots_of v))) ≡ true
          → HasKindTree c (suc k) (MessageOf id) (Message v)
          (message_text texts (text_within texts m c.types) c.types id known v)
      by_known Plain e h =
          plain_shown k m inner inmost id v e (open_valid k c.types id v valid) h (open_bytes m v bytes)
      by_known Wrapper e h =
          wrapper_shown laws texts c sound utf8 k m id v e (open_valid k c.types id v valid) (open_bytes m v bytes)
      by_known Timestamp e h =
          text_shown k m id v Timestamp e tt refl (λ t. refl) valid (some_text Timestamp h)
      by_known Duration e h = text_shown k m id v Duration e tt refl (λ t. refl) valid (some_text Duration h)
      by_known FieldMask e h = text_shown k m id v FieldMask e tt refl (λ t. refl) valid (some_text FieldMask h)

  -- messages of so many levels, and of one less
  both_shown : (k m : ℕ) → k ≤ m → MessagesShown texts c k m × MessagesShown texts c (below k) m
  both_shown zero m le = (
    λ id v valid has bytes. absurd (no_levels c.types id v valid),
    λ id v valid has bytes. absurd (no_levels c.types id v valid),
  )
  both_shown (suc k) zero le = absurd (omega (arith, le))
  both_shown (suc k) (suc m) le =
      let under = both_shown k m (omega (arith, le)) in
      let beside = both_shown k (suc m) (omega (arith, le)) in
      (step k m under.0 under.1, beside.0)

  -- messages of so many levels
  pub messages_shown : (k m : ℕ) → k ≤ m → MessagesShown texts c k m
  messages_shown k m le = (both_shown k m le).0
