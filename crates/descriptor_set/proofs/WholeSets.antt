-- Nothing of a set that is decoded is lost, since its value is valid.
use Rattle.std.proofs.Common.{◌≡◌, ◌<◌, ◌==◌, ◌+◌, ◌^◌, ℕ, ℤ, pos, negsuc, zero, suc, Bool, true, false, cond, List, [], ◌∷◌, map, Option, Some, None, Ok, IfSome, option_map, option_and_then, unwrap_or, nat_lt, arith, refl, ap, sym, ◌∙◌, subst}
use Rattle.std.proofs.lemmas.Bool.{eqb-true}
use Rattle.std.proofs.lemmas.Bool.Decides.{nat_tests}
use Rattle.std.proofs.lemmas.Int.{ints}
use Rattle.std.specs.List.{AllByRecursion}
use Rattle.schema.specs.Layers.{ItemLayer, SlotLayer}
use Rattle.message_types.specs.Types.{field_in, fields_of}
use Rattle.schema.specs.Validity.{AreFieldSlots, Inner, IsFieldSlot, IsInt32, IsItem, IsSlot, IsValid, valid_within}
use Rattle.schema.specs.Value.{slot_at, slot_in, slots_of}
use Rattle.message_types.specs.declared.fields.Field.{Field}
use Rattle.message_types.specs.declared.fields.Kind.{Kind}
use Rattle.message_types.specs.declared.fields.Kind.TheVariants.{Message as MessageOf}
use Rattle.message_types.specs.declared.fields.Shape.{Shape}
use Rattle.message_types.specs.declared.fields.Shape.TheVariants.{Single, Many as ManyOf}
use Rattle.message_types.specs.declared.messages.TypeId.{TypeId}
use Rattle.schema.specs.declared.value.Item.TheOpen.{Number, Truth, Text, Bytes, Message, One, Many, Pairs}
use Rattle.schema.specs.declared.value.Item.{Item, out-Item}
use Rattle.schema.specs.declared.value.Slot.{Slot, out-Slot}
use Rattle.schema.specs.declared.value.Value.{Value}
use Rattle.wire_format.specs.Decoding.{decoding}
use Rattle.wire_format.specs.Laws.{DecodedValuesAreValid, DecodesWithoutFault}
use Rattle.base.specs.Bytes.{AreBytes}
use Rattle.descriptor_set.specs.DescriptorFields.{message_info, rule_info}
use Rattle.descriptor_set.specs.DescriptorTypes.{descriptor_types, field_of, kind_of, listed_fields, shape_of, type_of}
use Rattle.descriptor_set.specs.FieldContents.{as_int32, item_at, item_in, items_in, message_at, message_in, messages_at, messages_in, number_at, number_in}
use Rattle.descriptor_set.specs.NothingLost.{IsWholeFile, IsWholeMessage, IsWholeMethod, IsWholeRule, IsWholeService, IsWholeSet}
use Rattle.descriptor_set.specs.declared.described.Described.{Described}
use Rattle.descriptor_set.specs.declared.described.Described.TheVariants as in_
use Rattle.descriptor_set.specs.declared.described.Holds.{Holds}
use Rattle.descriptor_set.specs.declared.described.Holds.TheVariants as holds
use Rattle.descriptor_set.proofs.ListedTypes.{listed_sound}
use Rattle.base.proofs.EachImageLemmas.{each_filtered}
use Rattle.base.proofs.EachLemmas.{each_weaker}

-- ---- what a field of a valid message holds

slot_fits : (inner : Inner) (fields : List Field) (es : List (ℕ × Slot)) (n : ℕ) (s : Slot) → AreFieldSlots inner fields es → slot_in es n ≡ Some s → IsFieldSlot inner (field_in fields n) s
slot_fits inner fields [] n s h k = absurd (cc (k))
slot_fits inner fields (e ∷ es) n s h k = pick (e.0 == n) (eqb-true e.0 n) k (slot_fits inner fields es n s h.1)
  where
    pick : (b : Bool) → (b ≡ true → e.0 ≡ n) → cond b (Some e.1) (slot_in es n) ≡ Some s → (slot_in es n ≡ Some s → IsFieldSlot inner (field_in fields n) s) → IsFieldSlot inner (field_in fields n) s
    pick true p k r =
        let same : e.1 ≡ s = cc (k) in
        subst (λ m. IsFieldSlot inner (field_in fields m) s) (p refl) (subst (IsFieldSlot inner (field_in fields e.0)) same h.0)
    pick false p k r = r k

module _ (inner : Inner) (fields : List Field) (w : Value) (slots : AreFieldSlots inner fields (slots_of w)) where
  -- a slot fits the field of its number
  pub field_slot : (n : ℕ) (f : Field) (s : Slot) → field_in fields n ≡ Some f → slot_at w n ≡ Some s → IsSlot inner f f.shape (out-Slot s)
  field_slot n f s known k = subst (λ o. IsFieldSlot inner o s) known (slot_fits inner fields (slots_of w) n s slots k)

  message_of : (id : TypeId) (i : Item) (v : Value) → IsItem inner (MessageOf id) (out-Item i) → message_in (out-Item i) ≡ Some v → inner.message id v
  message_of id i v h e = pick (out-Item i) h e
    where
      pick : (x : ItemLayer) → IsItem inner (MessageOf id) x → message_in x ≡ Some v → inner.message id v
      pick (Number z) h e = absurd (cc (e))
      pick (Truth b) h e = absurd (cc (e))
      pick (Text t) h e = absurd (cc (e))
      pick (Bytes b) h e = absurd (cc (e))
      pick (Message u) h e = let same : u ≡ v = cc (e) in subst (inner.message id) same h

  -- the messages of a repeated field are valid one level further in
  pub all_messages : (n : ℕ) (f : Field) (id : TypeId) → field_in fields n ≡ Some f → f.shape ≡ ManyOf → f.kind ≡ MessageOf id → AllByRecursion (inner.message id) (messages_at w n)
  all_messages n f id known shape kind = at (slot_at w n) refl
    where
      each : (x : SlotLayer) → IsSlot inner f ManyOf x → AllByRecursion (inner.message id) (messages_in (items_in x))
      each (One i) h = absurd (h)
      each (Pairs ps) h = absurd (h)
      each (Many is) h =
          let all : AllByRecursion (λ (i : Item). IsItem inner (MessageOf id) (out-Item i)) is = subst (λ (k : Kind). AllByRecursion (λ (i : Item). IsItem inner k (out-Item i)) is) kind h.1 in
          each_filtered (λ (i : Item). IsItem inner (MessageOf id) (out-Item i)) (inner.message id) (λ (i : Item). message_in (out-Item i)) (message_of id) is all

      at : (o : Option Slot) → slot_at w n ≡ o → AllByRecursion (inner.message id) (messages_in (unwrap_or (option_map (λ s. items_in (out-Slot s)) o) []))
      at None k = tt
      at (Some s) k = each (out-Slot s) (subst (λ (z : Shape). IsSlot inner f z (out-Slot s)) shape (field_slot n f s known k))

  -- and so is that of a singular one
  one_message : (n : ℕ) (f : Field) (id : TypeId) → field_in fields n ≡ Some f → f.shape ≡ Single → f.kind ≡ MessageOf id → IfSome (message_at w n) (inner.message id)
  one_message n f id known shape kind = at (slot_at w n) refl
    where
      given : (i : Item) (o : Option Value) → IsItem inner (MessageOf id) (out-Item i) → message_in (out-Item i) ≡ o → IfSome o (inner.message id)
      given i None h e = tt
      given i (Some v) h e = message_of id i v h e

      each : (x : SlotLayer) → IsSlot inner f Single x → IfSome (option_and_then (λ i. message_in (out-Item i)) (item_in x)) (inner.message id)
      each (One i) h = given i (message_in (out-Item i)) (subst (λ (k : Kind). IsItem inner k (out-Item i)) kind h.0) refl
      each (Many is) h = absurd (h)
      each (Pairs ps) h = absurd (h)

      at : (o : Option Slot) → slot_at w n ≡ o → IfSome (option_and_then (λ i. message_in (out-Item i)) (option_and_then (λ s. item_in (out-Slot s)) o)) (inner.message id)
      at None k = tt
      at (Some s) k = each (out-Slot s) (subst (λ (z : Shape). IsSlot inner f z (out-Slot s)) shape (field_slot n f s known k))

-- ---- levels

map_same : {A B : Type 0} (f g : A → B) (xs : List A) → AllByRecursion (λ x. f x ≡ g x) xs → map f xs ≡ map g xs
map_same f g [] h = refl
map_same f g (x ∷ xs) h = ap (λ y. y ∷ map f xs) h.0 ∙ ap (λ ys. g x ∷ ys) (map_same f g xs h.1)

-- a message that is valid in so many levels is read alike in any more
message_same : (k j : ℕ) (w : Value) → (valid_within k descriptor_types).message (type_of in_.Message) w → message_info (j + k) w ≡ message_info k w
unfolding valid_within message_info
message_same zero j w h = absurd (h)
message_same (suc k) j w h =
    let nested = all_messages (valid_within k descriptor_types) (fields_of descriptor_types (type_of in_.Message)) w h.slots 3 (field_of (3, holds.Messages in_.Message)) (type_of in_.Message) refl refl refl in
    let same : map (message_info (j + k)) (messages_at w 3) ≡ map (message_info k) (messages_at w 3) =
    map_same (message_info (j + k)) (message_info k) (messages_at w 3) (each_weaker ((valid_within k descriptor_types).message (type_of in_.Message)) (λ v. message_info (j + k) v ≡ message_info k v) (message_same k j) (messages_at w 3) nested) in
    let up : j + suc k ≡ suc (j + k) = omega arith in
    rw (up, same) refl

-- and so is a rule
rule_same : (k j : ℕ) (w : Value) → (valid_within k descriptor_types).message (type_of in_.Rule) w → rule_info (j + k) w ≡ rule_info k w
unfolding valid_within rule_info
rule_same zero j w h = absurd (h)
rule_same (suc k) j w h =
    let nested = all_messages (valid_within k descriptor_types) (fields_of descriptor_types (type_of in_.Rule)) w h.slots 11 (field_of (11, holds.Messages in_.Rule)) (type_of in_.Rule) refl refl refl in
    let same : map (rule_info (j + k)) (messages_at w 11) ≡ map (rule_info k) (messages_at w 11) =
    map_same (rule_info (j + k)) (rule_info k) (messages_at w 11) (each_weaker ((valid_within k descriptor_types).message (type_of in_.Rule)) (λ v. rule_info (j + k) v ≡ rule_info k v) (rule_same k j) (messages_at w 11) nested) in
    let up : j + suc k ≡ suc (j + k) = omega arith in
    rw (up, same) refl

message_whole : (w : Value) → (valid_within 98 descriptor_types).message (type_of in_.Message) w → IsWholeMessage w
message_whole w h j =
    let here : j + 100 ≡ (j + 2) + 98 = omega arith in
    ap (λ n. message_info n w) here ∙ message_same 98 (j + 2) w h ∙ sym (message_same 98 2 w h)

rule_whole : (w : Value) → (valid_within 95 descriptor_types).message (type_of in_.Rule) w → IsWholeRule w
rule_whole w h j =
    let here : j + 100 ≡ (j + 5) + 95 = omega arith in
    ap (λ n. rule_info n w) here ∙ rule_same 95 (j + 5) w h ∙ sym (rule_same 95 5 w h)

method_whole : (m : Value) → (valid_within 97 descriptor_types).message (type_of in_.Method) m → IsWholeMethod m
unfolding valid_within
method_whole m h =
    at (message_at m 4) (one_message (valid_within 96 descriptor_types) (fields_of descriptor_types (type_of in_.Method)) m h.slots 4 (field_of (4, holds.Message in_.MethodOptions)) (type_of in_.MethodOptions) refl refl refl)
  where
    rule_at : (r : Option Value) → IfSome r ((valid_within 95 descriptor_types).message (type_of in_.Rule)) → IfSome r IsWholeRule
    rule_at None h = tt
    rule_at (Some r) h = rule_whole r h

    at : (o : Option Value) → IfSome o ((valid_within 96 descriptor_types).message (type_of in_.MethodOptions)) → IfSome (option_and_then (λ options. message_at options 72295728) o) IsWholeRule
    at None h = tt
    at (Some o) h =
        rule_at (message_at o 72295728)
        (one_message (valid_within 95 descriptor_types) (fields_of descriptor_types (type_of in_.MethodOptions)) o h.slots 72295728 (field_of (72295728, holds.Message in_.Rule)) (type_of in_.Rule) refl refl refl)

service_whole : (s : Value) → (valid_within 98 descriptor_types).message (type_of in_.Service) s → IsWholeService s
unfolding valid_within
service_whole s h =
    each_weaker ((valid_within 97 descriptor_types).message (type_of in_.Method)) IsWholeMethod method_whole (messages_at s 2)
    (all_messages (valid_within 97 descriptor_types) (fields_of descriptor_types (type_of in_.Service)) s h.slots 2 (field_of (2, holds.Messages in_.Method)) (type_of in_.Method) refl refl refl)

file_whole : (f : Value) → (valid_within 99 descriptor_types).message (type_of in_.File) f → IsWholeFile f
unfolding valid_within
file_whole f h = (
  each_weaker ((valid_within 98 descriptor_types).message (type_of in_.Message)) IsWholeMessage message_whole (messages_at f 4)
      (all_messages (valid_within 98 descriptor_types) (fields_of descriptor_types (type_of in_.File)) f h.slots 4 (field_of (4, holds.Messages in_.Message)) (type_of in_.Message) refl refl refl),
  each_weaker ((valid_within 98 descriptor_types).message (type_of in_.Service)) IsWholeService service_whole (messages_at f 6)
      (all_messages (valid_within 98 descriptor_types) (fields_of descriptor_types (type_of in_.File)) f h.slots 6 (field_of (6, holds.Messages in_.Service)) (type_of in_.Service) refl refl refl),
)

set_whole : (v : Value) → IsValid descriptor_types (type_of in_.Set) v → IsWholeSet v
unfolding valid_within
set_whole v h =
    each_weaker ((valid_within 99 descriptor_types).message (type_of in_.File)) IsWholeFile file_whole (messages_at v 1)
    (all_messages (valid_within 99 descriptor_types) (fields_of descriptor_types (type_of in_.Set)) v h.slots 1 (field_of (1, holds.Messages in_.File)) (type_of in_.File) refl refl refl)

-- no level of a set that is decoded is lost
pub levels_kept : DecodesWithoutFault → DecodedValuesAreValid → (bytes : List ℕ) (v : Value) → AreBytes bytes → decoding descriptor_types (type_of in_.Set) bytes ≡ Ok v → IsWholeSet v
levels_kept exact valid bytes v b h = set_whole v (valid descriptor_types (type_of in_.Set) bytes v listed_sound b ((exact descriptor_types (type_of in_.Set) bytes v).0 h))

-- ---- numbers

-- a number of 32 bits is read
pub int32_kept : (z : ℤ) → IsInt32 z → as_int32 z ≡ Some z
int32_kept (pos n) h = let low : n < 2 ^ 31 = omega (arith, ints, h.1) in let test : nat_lt n (2 ^ 31) ≡ true = grind (arith, nat_tests, low) in rw test refl
int32_kept (negsuc n) h = let low : n < 2 ^ 31 = omega (arith, ints, h.0) in let test : nat_lt n (2 ^ 31) ≡ true = grind (arith, nat_tests, low) in rw test refl

held_number : (inner : Inner) (h : Holds) (n : ℕ) (i : Item) (z : ℤ) → out-Item i ≡ Number z → IsSlot inner (field_of (n, h)) (shape_of h) (One i) → IsInt32 z
held_number inner holds.Text n i z e s = absurd (subst (IsItem inner (kind_of holds.Text)) e s.0)
held_number inner holds.Number n i z e s = subst (IsItem inner (kind_of holds.Number)) e s.0
held_number inner holds.Truth n i z e s = absurd (subst (IsItem inner (kind_of holds.Truth)) e s.0)
held_number inner holds.Path n i z e s = absurd (subst (IsItem inner (kind_of holds.Path)) e s.0)
held_number inner holds.CustomPath n i z e s = absurd (subst (IsItem inner (kind_of holds.CustomPath)) e s.0)
held_number inner (holds.Message d) n i z e s = absurd (subst (IsItem inner (kind_of (holds.Message d))) e s.0)
held_number inner (holds.Messages d) n i z e s = absurd (s)

listed_number : (inner : Inner) (xs : List (ℕ × Holds)) (n : ℕ) (s : Slot) (i : Item) (z : ℤ) → IsFieldSlot inner (field_in (map field_of xs) n) s → out-Slot s ≡ One i → out-Item i ≡ Number z → IsInt32 z
listed_number inner [] n s i z h o e = absurd (h)
listed_number inner (x ∷ xs) n s i z h o e = pick (x.0 == n) h (listed_number inner xs n s i z)
  where
    pick : (b : Bool) → IsFieldSlot inner (cond b (Some (field_of x)) (field_in (map field_of xs) n)) s → (IsFieldSlot inner (field_in (map field_of xs) n) s → out-Slot s ≡ One i → out-Item i ≡ Number z → IsInt32 z) → IsInt32 z
    pick true h r = held_number inner x.1 x.0 i z e (subst (IsSlot inner (field_of x) (shape_of x.1)) o h)
    pick false h r = r h o e

fields_listed : (d : Described) → fields_of descriptor_types (type_of d) ≡ map field_of (listed_fields d)
fields_listed in_.Set = refl
fields_listed in_.File = refl
fields_listed in_.Message = refl
fields_listed in_.MessageOptions = refl
fields_listed in_.Field = refl
fields_listed in_.FieldOptions = refl
fields_listed in_.Oneof = refl
fields_listed in_.Enum = refl
fields_listed in_.EnumValue = refl
fields_listed in_.Service = refl
fields_listed in_.Method = refl
fields_listed in_.MethodOptions = refl
fields_listed in_.Rule = refl
fields_listed in_.CustomPattern = refl

number_kept : (inner : Inner) (d : Described) (w : Value) (n : ℕ) (i : Item) (z : ℤ) → AreFieldSlots inner (fields_of descriptor_types (type_of d)) (slots_of w) → item_at w n ≡ Some i → out-Item i ≡ Number z → IsInt32 z
number_kept inner d w n i z slots h e = at (slot_at w n) refl h
  where
    one : (x : SlotLayer) → item_in x ≡ Some i → x ≡ One i
    one (One j) k = let same : j ≡ i = cc (k) in ap One same
    one (Many is) k = absurd (cc (k))
    one (Pairs ps) k = absurd (cc (k))

    at : (o : Option Slot) → slot_at w n ≡ o → option_and_then (λ s. item_in (out-Slot s)) o ≡ Some i → IsInt32 z
    at None k h = absurd (cc (h))
    at (Some s) k h =
        let fits = slot_fits inner (fields_of descriptor_types (type_of d)) (slots_of w) n s slots k in
        listed_number inner (listed_fields d) n s i z (subst (λ fs. IsFieldSlot inner (field_in fs n) s) (fields_listed d) fits) (one (out-Slot s) h) e

-- no number of a message in a set is lost
pub numbers_kept : (k : ℕ) (d : Described) (w : Value) (n : ℕ) (i : Item) (z : ℤ) → (valid_within k descriptor_types).message (type_of d) w → item_at w n ≡ Some i → out-Item i ≡ Number z → number_at w n ≡ Some z
unfolding valid_within
numbers_kept zero d w n i z valid h e = absurd (valid)
numbers_kept (suc k) d w n i z valid h e =
    let kept = int32_kept z (number_kept (valid_within k descriptor_types) d w n i z valid.slots h e) in
    ap (λ o. option_and_then (λ x. number_in (out-Item x)) o) h ∙ ap number_in e ∙ kept
