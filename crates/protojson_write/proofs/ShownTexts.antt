-- The text of a value, or of one field of it, is a text of a tree that means it, and it is that of no other
-- (`shown_texts_mean_their_values`).
use Rattle.std.proofs.Common.{◌≡◌, ◌∙◌, ◌≤◌, ◌==◌, inl, inr, sym, ap, subst, refl, arith, cond, ℕ, Bool, true, false, List, [], ◌∷◌, codes, Option, Some, None, Ok}
use Rattle.std.specs.List.{AllByRecursion}
use Rattle.std.proofs.lemmas.Bool.{eqb-true}
use Rattle.message_types.specs.Types.{field_in, fields_of}
use Rattle.message_types.specs.declared.fields.Field.{Field}
use Rattle.message_types.specs.declared.fields.Kind.{Kind}
use Rattle.message_types.specs.declared.fields.Kind.TheVariants.{One as OneOf, Message as MessageOf}
use Rattle.message_types.specs.declared.fields.Presence.{Presence}
use Rattle.message_types.specs.declared.fields.Presence.TheVariants.{Implicit, Explicit}
use Rattle.message_types.specs.declared.fields.Scalar.{Scalar}
use Rattle.message_types.specs.declared.fields.Shape.{Shape}
use Rattle.message_types.specs.declared.fields.Shape.TheVariants.{Single, Member, Many as ManyOf, Map as MapOf}
use Rattle.message_types.specs.declared.messages.TypeId.{TypeId}
use Rattle.schema.specs.Soundness.{IsSoundField}
use Rattle.schema.specs.Validity.{IsFieldSlot, valid_within}
use Rattle.schema.specs.Value.{slot_at, slot_in, slots_of}
use Rattle.schema.specs.declared.value.Item.TheOpen.{Message}
use Rattle.schema.specs.declared.value.Item.{Item}
use Rattle.schema.specs.declared.value.Slot.{Slot, out-Slot}
use Rattle.schema.specs.declared.value.Value.{Value}
use Rattle.json_events.specs.JsonText.{IsTextOf, IsTextWith, Span}
use Rattle.json_events.specs.JsonTree.{Json, literal}
use Rattle.json_events.specs.declared.state.Name.TheVariants as names
use Rattle.json_meanings.specs.FaultPlaces.{onward}
use Rattle.json_meanings.specs.JsonDenotes.{Denotes, alone, part_spot, read_at}
use Rattle.json_meanings.specs.JsonScalars.{Schema}
use Rattle.json_meanings.specs.PartialMessages.{empty_message, form_of, put_field, stored, value_of}
use Rattle.json_meanings.specs.ReadingLaws.{ReadingLawsHold}
use Rattle.json_meanings.specs.ReadingSpots.{many, pairs, part, single, unset, whole}
use Rattle.json_meanings.specs.TextMeanings.{BytesMean}
use Rattle.protojson_write.specs.JsonOutput.{absent_text, field_text, json_text, single_default, slot_text, text_within}
use Rattle.protojson_write.specs.KnownParts.{KnownTexts, field_parts, have_texts, parts_within}
use Rattle.protojson_write.specs.ScalarOutput.{default_of, scalar_text}
use Rattle.protojson_write.specs.ShownMeans.{IsReadBack, IsShowable, SlotHoldsBytes, holds_bytes_within, shown_part, with_field}
use Rattle.protojson_write.proofs.ShownFields.{found_all, found_number, good_fields}
use Rattle.protojson_write.proofs.ShownLists.{list_shown, map_shown}
use Rattle.protojson_write.proofs.ShownMembers.{HasSlotTree}
use Rattle.protojson_write.proofs.ShownMessages.{messages_shown, open_bytes, open_valid}
use Rattle.protojson_write.proofs.ShownDefaults.{default_holds, default_is_default, default_is_scalar}
use Rattle.protojson_write.proofs.ShownScalars.{ScalarsAreReadBack, scalar_shown}
use Rattle.protojson_write.proofs.ShownSlots.{slot_shown}
use Rattle.protojson_write.proofs.ShownSpots.{HasKindTree, IsOneItem, at_field, at_whole, part_spot_of}
use Rattle.protojson_write.proofs.TreeTexts.{literal_text, text_of_tree}

-- what holds of each slot with its number holds of the one at a number
slot_all : (P : ℕ → Slot → Type 0) (es : List (ℕ × Slot)) (n : ℕ) (s : Slot)
    → AllByRecursion (λ (e : ℕ × Slot). P e.0 e.1) es → slot_in es n ≡ Some s → P n s
slot_all P [] n s all e = absurd cc
slot_all P (d ∷ es) n s all e = by_test (d.0 == n) refl e (slot_all P es n s all.1)
  where
    by_test : (b : Bool) → (d.0 == n) ≡ b → cond b (Some d.1) (slot_in es n) ≡ Some s
        → (slot_in es n ≡ Some s → P n s) → P n s
    by_test true is q others =
        let same : d.1 ≡ s = cc q in subst (P n) same (subst (λ k. P k d.1) (eqb-true d.0 n is) all.0)
    by_test false is q others = others q

-- the slot of the first
abbrev first_slot : List (ℕ × Slot) → Option Slot
first_slot [] = None
first_slot (d ∷ es) = Some d.1

-- a message of one field alone is that of no other slot
same_field : (n : ℕ) (o p : Option Slot) → with_field n o ≡ with_field n p → o ≡ p
same_field n None None e = refl
same_field n (Some s) None e = let q : (n, s) ∷ [] ≡ [] = ap slots_of e in absurd (cc q)
same_field n None (Some s) e = let q : [] ≡ (n, s) ∷ [] = ap slots_of e in absurd (cc q)
same_field n (Some s) (Some t) e =
    let q : (n, s) ∷ [] ≡ (n, t) ∷ [] = ap slots_of e in ap first_slot q

module _ (laws : ScalarsAreReadBack) (texts : KnownTexts) (c : Schema) (rests : IsReadBack texts c) where
  -- the text of a message
  whole_means : (id : TypeId) (v : Value) (w : List ℕ) → IsShowable c.types id v
      → json_text texts c.types id None v ≡ Some w
      → BytesMean c id None w v
  unfolding json_text
  whole_means id v w showable e = by_test (have_texts texts (parts_within 100 c.types id v)) refl e
    where
      by_test : (b : Bool) → have_texts texts (parts_within 100 c.types id v) ≡ b
          → cond b (Some (text_within texts 100 c.types id v)) None ≡ Some w
          → BytesMean c id None w v
      by_test false has q = absurd cc
      by_test true has q =
          let shown =
          messages_shown laws texts c rests.sound rests.names rests.agree 100 100 (omega arith) id v showable.valid has
          showable.bytes in
          let t = at_whole c 100 id (Message v) (text_within texts 100 c.types id v) shown in
          let same : text_within texts 100 c.types id v ≡ w = cc q in (
            t.tree,
            subst (IsTextOf t.tree) same (text_of_tree t.tree (text_within texts 100 c.types id v) t.text),
            ap (λ r. onward r (λ x. Ok (alone (whole 100 id) x))) t.reads,
          )

  -- what is read at the spot of a field alone
  field_means : (id : TypeId) (n : ℕ) (f : Field) (w : List ℕ) (o : Option Slot)
      → field_in (fields_of c.types id) n ≡ Some f → HasSlotTree c (form_of f) (part 99 (form_of f)) w o
      → BytesMean c id (Some n) w (with_field n o)
  field_means id n f w o found t = (
    t.has.tree,
    text_of_tree t.has.tree w t.has.text,
    ap (λ q. read_at c (part_spot q id) t.has.tree) found
        ∙ (ap (λ r. onward r (λ x. Ok (alone (part 99 (form_of f)) x))) t.has.reads
        ∙ (ap (λ q. Ok (value_of (put_field empty_message (form_of f) q))) t.slot ∙ ap Ok (alone_is o))),
  )
    where
      alone_is : (q : Option Slot) → value_of (put_field empty_message (form_of f) q) ≡ with_field n q
      alone_is None = refl
      alone_is (Some s) = ap (λ k. record { fields = (k, s) ∷ [] }) (found_number n (fields_of c.types id) f found)

  -- a field that is absent
  absent_means : (f : Field) → HasSlotTree c (form_of f) (part 99 (form_of f)) (absent_text c.types f f.shape) None
  absent_means f = by_shape f.shape refl
    where
      null_means : HasSlotTree c (form_of f) (part 99 (form_of f)) (codes "null") None
      null_means = record {
        filled = unset;
        has = record { tree = literal names.Null; text = literal_text names.Null (codes "null") refl; reads = refl };
        slot = refl;
      }

      default_means : (s : Scalar) → f.kind ≡ OneOf s → f.presence ≡ Implicit → IsOneItem f.shape
          → HasSlotTree c (form_of f) (part 99 (form_of f)) (scalar_text c.types s (default_of s)) None
      default_means s kind presence one =
          let t =
          scalar_shown laws c.types rests.sound rests.names (holds_bytes_within 99) s (default_of s)
          (default_is_scalar s) (default_holds (holds_bytes_within 99) s) in
          record {
            filled = single (default_of s);
            has =
                at_field c 99 (form_of f) (part 99 (form_of f)) (default_of s) (scalar_text c.types s (default_of s))
                (part_spot_of c 99 (form_of f)) one
                (subst (λ kind. HasKindTree c 99 kind (default_of s) (scalar_text c.types s (default_of s))) (sym kind)
                (inl (record { leaf = t.0; text = t.1; reads = t.2 })));
            slot =
                ap (λ p. stored p (default_of s)) presence
                ∙ ap (λ b. cond b None (stored Explicit (default_of s))) (default_is_default s);
          }

      single_means : IsOneItem f.shape → (p : Presence) (kind : Kind) → f.presence ≡ p → f.kind ≡ kind
          → HasSlotTree c (form_of f) (part 99 (form_of f)) (single_default c.types p kind) None
      single_means one Implicit (OneOf s) e k = default_means s k e one
      single_means one Implicit (MessageOf id) e k = null_means
      single_means one Explicit kind e k = null_means

      by_shape : (shape : Shape) → f.shape ≡ shape
          → HasSlotTree c (form_of f) (part 99 (form_of f)) (absent_text c.types f shape) None
      by_shape ManyOf e = record {
        filled = many [];
        has = list_shown c 99 (form_of f) (part 99 (form_of f)) (λ i. []) [] (part_spot_of c 99 (form_of f)) e tt;
        slot = refl;
      }
      by_shape (MapOf s) e = record {
        filled = pairs [];
        has = map_shown c 99 (form_of f) s (part 99 (form_of f)) (λ i. []) [] (part_spot_of c 99 (form_of f)) e tt tt;
        slot = refl;
      }
      by_shape Single e = single_means (inl e) f.presence f.kind refl refl
      by_shape (Member k) e = single_means (inr (k, e)) f.presence f.kind refl refl

  -- a field that is there
  present_means : (id : TypeId) (n : ℕ) (v : Value) (f : Field) (s : Slot) → IsShowable c.types id v
      → field_in (fields_of c.types id) n ≡ Some f → slot_at v n ≡ Some s
      → have_texts texts (field_parts (parts_within 99 c.types) (Some f) s) ≡ true
      → HasSlotTree c (form_of f) (part 99 (form_of f))
      (slot_text (text_within texts 99 c.types) c.types f.kind (out-Slot s)) (Some s)
  present_means id n v f s showable found at has =
      let good = good_fields c.types rests.sound rests.names id in
      let inner = messages_shown laws texts c rests.sound rests.names rests.agree 99 99 (omega arith) in
      let inmost = messages_shown laws texts c rests.sound rests.names rests.agree 98 99 (omega arith) in
      let fits =
      slot_all (λ k q. IsFieldSlot (valid_within 99 c.types) (field_in (fields_of c.types id) k) q) (slots_of v) n s
      (open_valid 99 c.types id v showable.valid).slots at in
      slot_shown laws texts c rests.sound rests.names 99 99 inner inmost f (part 99 (form_of f)) s
      (found_all (IsSoundField c.types) n (fields_of c.types id) f good.sound found).shape
      (part_spot_of c 99 (form_of f))
      (subst (λ o. IsFieldSlot (valid_within 99 c.types) o s) found fits) has
      (slot_all (λ k q. SlotHoldsBytes (holds_bytes_within 99) (out-Slot q)) (slots_of v) n s
      (open_bytes 99 v showable.bytes) at)

  -- the text of one field
  part_means : (id : TypeId) (n : ℕ) (v : Value) (w : List ℕ) → IsShowable c.types id v
      → json_text texts c.types id (Some n) v ≡ Some w
      → BytesMean c id (Some n) w (with_field n (slot_at v n))
  unfolding json_text
  part_means id n v w showable e =
      by_field (field_in (fields_of c.types id) n) (slot_at v n) refl refl e
    where
      by_test : (f : Field) (s : Slot) → field_in (fields_of c.types id) n ≡ Some f → slot_at v n ≡ Some s
          → (b : Bool) → have_texts texts (field_parts (parts_within 99 c.types) (Some f) s) ≡ b
          → cond b (Some (slot_text (text_within texts 99 c.types) c.types f.kind (out-Slot s))) None ≡ Some w
          → BytesMean c id (Some n) w (with_field n (Some s))
      by_test f s found at false has q = absurd cc
      by_test f s found at true has q =
          let same : slot_text (text_within texts 99 c.types) c.types f.kind (out-Slot s) ≡ w = cc q in
          subst (λ t. BytesMean c id (Some n) t (with_field n (Some s))) same
          (field_means id n f _ (Some s) found (present_means id n v f s showable found at has))

      by_field : (o : Option Field) (s : Option Slot) → field_in (fields_of c.types id) n ≡ o → slot_at v n ≡ s
          → field_text texts 99 c.types o s ≡ Some w
          → BytesMean c id (Some n) w (with_field n s)
      by_field None s found at q = absurd cc
      by_field (Some f) None found at q =
          let same : absent_text c.types f f.shape ≡ w = cc q in
          subst (λ t. BytesMean c id (Some n) t (with_field n None)) same
          (field_means id n f (absent_text c.types f f.shape) None found (absent_means f))
      by_field (Some f) (Some s) found at q =
          by_test f s found at (have_texts texts (field_parts (parts_within 99 c.types) (Some f) s)) refl q

  -- the text of a value, or of one field of it
  pub shown_means : (id : TypeId) (n : Option ℕ) (v : Value) (w : List ℕ) → IsShowable c.types id v
      → json_text texts c.types id n v ≡ Some w
      → BytesMean c id n w (shown_part n v)
  shown_means id None v w showable e = whole_means id v w showable e
  shown_means id (Some n) v w showable e = part_means id n v w showable e

  module _ (one_tree : (j k : Json) (s : List ℕ) (ts us : List Span) → IsTextWith j s ts → IsTextWith k s us → j ≡ k)
      (readings : (c : Schema) (id : TypeId) (n : Option ℕ) → ReadingLawsHold c id n) where
    -- means nothing else
    pub shown_alone : (id : TypeId) (n : Option ℕ) (v u : Value) (w : List ℕ) → IsShowable c.types id v
        → json_text texts c.types id n v ≡ Some w → BytesMean c id n w u
        → u ≡ shown_part n v
    shown_alone id n v u w showable e other =
        let first = shown_means id n v w showable e in
        (readings c id n).one_value first.0 u (shown_part n v)
        (subst (λ j. Denotes c id n j u) (one_tree other.0 first.0 w other.1.0 first.1.0 other.1.1 first.1.1) other.2)
        first.2

    -- and is that of no other value
    pub shown_once : (id : TypeId) (n : Option ℕ) (v u : Value) (w : List ℕ) → IsShowable c.types id v
        → IsShowable c.types id u → json_text texts c.types id n v ≡ Some w → json_text texts c.types id n u ≡ Some w
        → shown_part n v ≡ shown_part n u
    shown_once id n v u w first second e d =
        shown_alone id n u (shown_part n v) w second d (shown_means id n v w first e)

    -- nor of another field
    pub field_once : (id : TypeId) (n : ℕ) (v u : Value) (w : List ℕ) → IsShowable c.types id v
        → IsShowable c.types id u → json_text texts c.types id (Some n) v ≡ Some w
        → json_text texts c.types id (Some n) u ≡ Some w
        → slot_at v n ≡ slot_at u n
    field_once id n v u w first second e d =
        same_field n (slot_at v n) (slot_at u n) (shown_once id (Some n) v u w first second e d)
