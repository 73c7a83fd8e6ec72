-- What is read of a listed field of a valid message is what its slot holds.
use Rattle.std.proofs.Common.{◌≡◌, ℕ, ℤ, zero, suc, Bool, List, [], ◌∷◌, map, Option, Some, None, Ok, IfSome, option_map, option_and_then, unwrap_or, refl, ap, sym, ◌∙◌, subst}
use Rattle.std.specs.List.{AllByRecursion, cons_option}
use Rattle.base.specs.Bytes.{AreBytes}
use Rattle.base.proofs.EachLemmas.{each_weaker}
use Rattle.message_types.specs.Types.{field_in, fields_of}
use Rattle.message_types.specs.declared.fields.Field.{Field}
use Rattle.message_types.specs.declared.fields.Kind.{Kind}
use Rattle.message_types.specs.declared.fields.Kind.TheVariants.{One as OneOf, Message as MessageOf}
use Rattle.message_types.specs.declared.fields.Scalar.TheVariants.{Int32, Bool as BoolOf, Text as TextOf}
use Rattle.message_types.specs.declared.fields.Shape.TheVariants.{Single, Member, Many as ManyOf}
use Rattle.message_types.specs.declared.messages.TypeId.{TypeId}
use Rattle.schema.specs.Layers.{ItemLayer, SlotLayer}
use Rattle.schema.specs.Validity.{AreFieldSlots, Inner, IsItem, IsMessage, IsSlot, valid_within}
use Rattle.schema.specs.Value.{slot_at, slots_of}
use Rattle.schema.specs.declared.value.Item.TheOpen.{Number, Truth, Text, Bytes, Message, One, Many, Pairs}
use Rattle.schema.specs.declared.value.Item.{Item, out-Item}
use Rattle.schema.specs.declared.value.Slot.{Slot, out-Slot}
use Rattle.schema.specs.declared.value.Value.{Value}
use Rattle.wire_format.specs.Decoding.{decoding}
use Rattle.wire_format.specs.Laws.{DecodedValuesAreValid, DecodesWithoutFault}
use Rattle.descriptor_set.specs.DescriptorTypes.{descriptor_types, field_of, listed_fields, type_of}
use Rattle.descriptor_set.specs.FieldContents.{item_in, items_in, message_at, message_in, messages_at, messages_in, number_in, text_in, truth_in}
use Rattle.descriptor_set.specs.ListedContents.{AreReadOf, HaveInner, IsFieldRead, IsMessageRead, IsPatternRead, IsReadOf}
use Rattle.descriptor_set.specs.declared.described.Described.{Described}
use Rattle.descriptor_set.specs.declared.described.Described.TheVariants as in_
use Rattle.descriptor_set.specs.declared.described.Holds.{Holds}
use Rattle.descriptor_set.specs.declared.described.Holds.TheVariants as holds
use Rattle.descriptor_set.proofs.ListedTypes.{listed_sound}
use Rattle.descriptor_set.proofs.PatternReads.{pattern_read}
use Rattle.descriptor_set.proofs.WholeSets.{all_messages, field_slot, int32_kept}

-- each listed field is a field of the type of its message
known_fields : (d : Described)
    → AllByRecursion (λ (f : ℕ × Holds). field_in (fields_of descriptor_types (type_of d)) f.0 ≡ Some (field_of f))
    (listed_fields d)
known_fields in_.Set = (refl, tt)
known_fields in_.File = (refl, (refl, (refl, (refl, (refl, (refl, (refl, (refl, tt))))))))
known_fields in_.Message = (refl, (refl, (refl, (refl, (refl, (refl, (refl, tt)))))))
known_fields in_.MessageOptions = (refl, (refl, tt))
known_fields in_.Field = (refl, (refl, (refl, (refl, (refl, (refl, (refl, (refl, (refl, (refl, tt))))))))))
known_fields in_.FieldOptions = (refl, tt)
known_fields in_.Oneof = (refl, tt)
known_fields in_.Enum = (refl, (refl, tt))
known_fields in_.EnumValue = (refl, (refl, tt))
known_fields in_.Service = (refl, (refl, tt))
known_fields in_.Method = (refl, (refl, (refl, (refl, (refl, (refl, tt))))))
known_fields in_.MethodOptions = (refl, tt)
known_fields in_.Rule = (refl, (refl, (refl, (refl, (refl, (refl, (refl, (refl, (refl, tt)))))))))
known_fields in_.CustomPattern = (refl, (refl, tt))

module _ (inner : Inner) where
  -- ---- what an item of a kind is

  -- an item is made of something, which is what is read of it
  abbrev IsGot : {X : Type 0} → (X → ItemLayer) → (ItemLayer → Option X) → ItemLayer → Type 0
  IsGot {X = X} put get y = (x : X) × (y ≡ put x) × (get y ≡ Some x)

  text_item : (y : ItemLayer) → IsItem inner (OneOf TextOf) y → IsGot (λ (t : List ℕ). Text t) text_in y
  text_item (Number z) h = absurd h
  text_item (Truth b) h = absurd h
  text_item (Text t) h = (t, refl, refl)
  text_item (Bytes b) h = absurd h
  text_item (Message m) h = absurd h

  number_item : (y : ItemLayer) → IsItem inner (OneOf Int32) y → IsGot (λ (z : ℤ). Number z) number_in y
  number_item (Number z) h = (z, refl, int32_kept z h)
  number_item (Truth b) h = absurd h
  number_item (Text t) h = absurd h
  number_item (Bytes b) h = absurd h
  number_item (Message m) h = absurd h

  truth_item : (y : ItemLayer) → IsItem inner (OneOf BoolOf) y → IsGot (λ (b : Bool). Truth b) truth_in y
  truth_item (Number z) h = absurd h
  truth_item (Truth b) h = (b, refl, refl)
  truth_item (Text t) h = absurd h
  truth_item (Bytes b) h = absurd h
  truth_item (Message m) h = absurd h

  message_item : (id : TypeId) (y : ItemLayer) → IsItem inner (MessageOf id) y
      → IsGot (λ (m : Value). Message m) message_in y
  message_item id (Number z) h = absurd h
  message_item id (Truth b) h = absurd h
  message_item id (Text t) h = absurd h
  message_item id (Bytes b) h = absurd h
  message_item id (Message m) h = (m, refl, refl)

  -- ---- what a slot of a field with one value holds

  abbrev HasOne : Kind → SlotLayer → Type 0
  HasOne kind x = (i : Item) × (x ≡ One i) × IsItem inner kind (out-Item i)

  single_one : (f : Field) (x : SlotLayer) → IsSlot inner f Single x → HasOne f.kind x
  single_one f (One i) h = (i, refl, h.0)
  single_one f (Many is) h = absurd h
  single_one f (Pairs ps) h = absurd h

  member_one : (f : Field) (x : SlotLayer) → IsSlot inner f (Member 0) x → HasOne f.kind x
  member_one f (One i) h = (i, refl, h.0)
  member_one f (Many is) h = absurd h
  member_one f (Pairs ps) h = absurd h

  one_read : {X : Type 0} (put : X → ItemLayer) (get : ItemLayer → Option X) (kind : Kind)
      → ((y : ItemLayer) → IsItem inner kind y → IsGot put get y)
      → (o : Option Slot) → ((s : Slot) → o ≡ Some s → HasOne kind (out-Slot s))
      → IsReadOf put o (option_and_then (λ i. get (out-Item i)) (option_and_then (λ s. item_in (out-Slot s)) o))
  one_read put get kind got None h = tt
  one_read put get kind got (Some s) h =
      let one = h s refl in
      let i = one.0 in
      let is = got (out-Item i) one.2 in
      let read : option_and_then (λ j. get (out-Item j)) (item_in (out-Slot s)) ≡ Some is.0 =
      ap (λ l. option_and_then (λ j. get (out-Item j)) (item_in l)) one.1 ∙ is.2 in
      subst (IsReadOf put (Some s)) (sym read) (record { item = i; one = one.1; item_is = is.1 })

  -- the message that such a slot holds is valid one level further in
  one_inner : (id : TypeId) (o : Option Slot) → ((s : Slot) → o ≡ Some s → HasOne (MessageOf id) (out-Slot s))
      → IfSome (option_and_then (λ i. message_in (out-Item i)) (option_and_then (λ s. item_in (out-Slot s)) o))
      (inner.message id)
  one_inner id None h = tt
  one_inner id (Some s) h =
      let one = h s refl in
      subst (λ l. IfSome (option_and_then (λ j. message_in (out-Item j)) (item_in l)) (inner.message id)) (sym one.1)
      (pick (out-Item one.0) one.2)
    where
      pick : (y : ItemLayer) → IsItem inner (MessageOf id) y → IfSome (message_in y) (inner.message id)
      pick (Number z) h = absurd h
      pick (Truth b) h = absurd h
      pick (Text t) h = absurd h
      pick (Bytes b) h = absurd h
      pick (Message m) h = h

  -- ---- what a slot of messages holds

  items_are : (id : TypeId) (is : List Item)
      → AllByRecursion (λ (i : Item). IsItem inner (MessageOf id) (out-Item i)) is
      → map out-Item is ≡ map (λ v. Message v) (messages_in is)
  items_are id [] a = refl
  items_are id (i ∷ is) a =
      let got = message_item id (out-Item i) a.0 in
      ap (λ y. y ∷ map out-Item is) got.1 ∙ ap (λ ys. Message got.0 ∷ ys) (items_are id is a.1)
      ∙ ap (λ o. map (λ v. Message v) (cons_option o (messages_in is))) (sym got.2)

  all_read : (n : ℕ) (d : Described) (o : Option Slot)
      → ((s : Slot) → o ≡ Some s → IsSlot inner (field_of (n, holds.Messages d)) ManyOf (out-Slot s))
      → AreReadOf o (messages_in (unwrap_or (option_map (λ s. items_in (out-Slot s)) o) []))
  all_read n d None h = refl
  all_read n d (Some s) h = pick (out-Slot s) refl (h s refl)
    where
      pick : (x : SlotLayer) → out-Slot s ≡ x → IsSlot inner (field_of (n, holds.Messages d)) ManyOf x
          → AreReadOf (Some s) (messages_in (items_in (out-Slot s)))
      pick (One i) e k = absurd k
      pick (Pairs ps) e k = absurd k
      pick (Many is) e k = subst (λ l. AreReadOf (Some s) (messages_in (items_in l))) (sym e)
          (record { items = is; many = e; items_are = items_are (type_of d) is k.1 })

  module _ (fields : List Field) (w : Value) (slots : AreFieldSlots inner fields (slots_of w)) where
    -- a listed field is among those of the type
    abbrev IsKnown : ℕ × Holds → Type 0
    IsKnown f = field_in fields f.0 ≡ Some (field_of f)

    single : (n : ℕ) (h : Holds) → IsKnown (n, h) → (field_of (n, h)).shape ≡ Single → (s : Slot)
        → slot_at w n ≡ Some s → HasOne (field_of (n, h)).kind (out-Slot s)
    single n h known shape s e =
        single_one (field_of (n, h)) (out-Slot s)
        (subst (λ z. IsSlot inner (field_of (n, h)) z (out-Slot s)) shape
        (field_slot inner fields w slots n (field_of (n, h)) s known e))

    member : (n : ℕ) (h : Holds) → IsKnown (n, h) → (field_of (n, h)).shape ≡ Member 0 → (s : Slot)
        → slot_at w n ≡ Some s → HasOne (field_of (n, h)).kind (out-Slot s)
    member n h known shape s e =
        member_one (field_of (n, h)) (out-Slot s)
        (subst (λ z. IsSlot inner (field_of (n, h)) z (out-Slot s)) shape
        (field_slot inner fields w slots n (field_of (n, h)) s known e))

    -- what is read of a listed field is what it holds
    field_read : (n : ℕ) (h : Holds) → IsKnown (n, h) → IsFieldRead h w n
    field_read n holds.Text k =
        one_read (λ (t : List ℕ). Text t) text_in (OneOf TextOf) text_item (slot_at w n) (single n holds.Text k refl)
    field_read n holds.Number k =
        one_read (λ (z : ℤ). Number z) number_in (OneOf Int32) number_item (slot_at w n)
        (single n holds.Number k refl)
    field_read n holds.Truth k =
        one_read (λ (b : Bool). Truth b) truth_in (OneOf BoolOf) truth_item (slot_at w n)
        (single n holds.Truth k refl)
    field_read n holds.Path k =
        one_read (λ (t : List ℕ). Text t) text_in (OneOf TextOf) text_item (slot_at w n) (member n holds.Path k refl)
    field_read n holds.CustomPath k =
        one_read (λ (m : Value). Message m) message_in (MessageOf (type_of in_.CustomPattern))
        (message_item (type_of in_.CustomPattern)) (slot_at w n) (member n holds.CustomPath k refl)
    field_read n (holds.Message d) k =
        one_read (λ (m : Value). Message m) message_in (MessageOf (type_of d)) (message_item (type_of d))
        (slot_at w n) (single n (holds.Message d) k refl)
    field_read n (holds.Messages d) k =
        all_read n d (slot_at w n) (λ s e. field_slot inner fields w slots n (field_of (n, holds.Messages d)) s k e)

    -- the messages that it holds have what each valid message one level further in has
    inner_have : (P : Described → Value → Type 0)
        → ((d : Described) (v : Value) → inner.message (type_of d) v → P d v) → (n : ℕ) (h : Holds) → IsKnown (n, h)
        → HaveInner P h w n
    inner_have P each n holds.Text k = tt
    inner_have P each n holds.Number k = tt
    inner_have P each n holds.Truth k = tt
    inner_have P each n holds.Path k = tt
    inner_have P each n holds.CustomPath k =
        given (message_at w n)
        (one_inner (type_of in_.CustomPattern) (slot_at w n) (member n holds.CustomPath k refl))
      where
        given : (o : Option Value) → IfSome o (inner.message (type_of in_.CustomPattern))
            → IfSome o (P in_.CustomPattern)
        given None h = tt
        given (Some v) h = each in_.CustomPattern v h
    inner_have P each n (holds.Message d) k =
        given (message_at w n) (one_inner (type_of d) (slot_at w n) (single n (holds.Message d) k refl))
      where
        given : (o : Option Value) → IfSome o (inner.message (type_of d)) → IfSome o (P d)
        given None h = tt
        given (Some v) h = each d v h
    inner_have P each n (holds.Messages d) k =
        each_weaker (inner.message (type_of d)) (P d) (each d) (messages_at w n)
        (all_messages inner fields w slots n (field_of (n, holds.Messages d)) (type_of d) k refl refl)

-- the pattern of a message that is a rule is read
rule_pattern : (inner : Inner) (d : Described) (w : Value) → IsMessage inner descriptor_types (type_of d) w
    → IsPatternRead d w
rule_pattern inner in_.Set w h = tt
rule_pattern inner in_.File w h = tt
rule_pattern inner in_.Message w h = tt
rule_pattern inner in_.MessageOptions w h = tt
rule_pattern inner in_.Field w h = tt
rule_pattern inner in_.FieldOptions w h = tt
rule_pattern inner in_.Oneof w h = tt
rule_pattern inner in_.Enum w h = tt
rule_pattern inner in_.EnumValue w h = tt
rule_pattern inner in_.Service w h = tt
rule_pattern inner in_.Method w h = tt
rule_pattern inner in_.MethodOptions w h = tt
rule_pattern inner in_.Rule w h = pattern_read w h.oneofs
rule_pattern inner in_.CustomPattern w h = tt

-- what is read of a valid message, and of those in it, is what they hold
message_read : (k : ℕ) (d : Described) (w : Value) → (valid_within k descriptor_types).message (type_of d) w
    → IsMessageRead k d w
unfolding valid_within IsMessageRead
message_read zero d w h = absurd h
message_read (suc k) d w h =
    let inner = valid_within k descriptor_types in
    let fields = fields_of descriptor_types (type_of d) in (
      each_weaker (λ (f : ℕ × Holds). field_in fields f.0 ≡ Some (field_of f))
          (λ (f : ℕ × Holds). IsFieldRead f.1 w f.0 × HaveInner (IsMessageRead k) f.1 w f.0)
          (λ (f : ℕ × Holds) e. (
            field_read inner fields w h.slots f.0 f.1 e,
            inner_have inner fields w h.slots (IsMessageRead k) (message_read k) f.0 f.1 e,
          ))
          (listed_fields d) (known_fields d),
      rule_pattern inner d w h,
    )

-- what is read of a set that is decoded is what it lists
pub read_as_listed : DecodesWithoutFault → DecodedValuesAreValid → (bytes : List ℕ) (v : Value) → AreBytes bytes
    → decoding descriptor_types (type_of in_.Set) bytes ≡ Ok v → IsMessageRead 100 in_.Set v
read_as_listed exact valid bytes v b h =
    message_read 100 in_.Set v
    (valid descriptor_types (type_of in_.Set) bytes v listed_sound b
    ((exact descriptor_types (type_of in_.Set) bytes v).0 h))
