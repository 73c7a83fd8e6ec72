-- The parts of what is linked: of types, of a message and of a field.
use Rattle.std.proofs.Common.{◌≡◌, ℕ, List, Option, Some, option_and_then, sym, ap, ◌∙◌, slice_get}
use Rattle.std.proofs.lemmas.Option.{option_and_then_some}
use Rattle.std.specs.List.{AllZip}
use Rattle.descriptors.specs.declared.file_set.FieldInfo.{FieldInfo}
use Rattle.descriptor_pool.specs.DeclaredNames.{DeclaredMessage}
use Rattle.descriptor_pool.specs.DeclaredTypes.{SetTypes}
use Rattle.descriptor_pool.specs.JsonFieldNames.{json_of}
use Rattle.descriptor_pool.specs.ReachableTypes.{Joined, messages_of, reached_enums}
use Rattle.descriptor_pool.specs.WellKnownTypes.{known_of}
use Rattle.message_types.specs.declared.enums.EnumType.{EnumType}
use Rattle.message_types.specs.declared.fields.Field.{Field}
use Rattle.message_types.specs.declared.messages.MessageType.{MessageType}
use Rattle.message_types.specs.declared.messages.Types.{Types}
use Rattle.linked_types.specs.EachSome.{each_some}
use Rattle.linked_types.specs.LinkedTypes.{index_from, is_packed, linked_enum_at, linked_enums, linked_field, linked_item, linked_kind, linked_messages, linked_shape, linked_types, natural, presence_of, types_of, value_of}
use Rattle.linked_types.proofs.EachSomeLemmas.{all_zip, option_map_some}

-- what is linked by the places of messages and enums is what is linked
pub types_by_places : (types : SetTypes) (js : List Joined) (places enums : List ℕ) (o : Option (List MessageType))
    (p : Option (List EnumType))
    → places ≡ messages_of js → enums ≡ reached_enums types js
    → o ≡ linked_messages types (index_from 0 places) (index_from 0 enums) js → p ≡ linked_enums types enums
    → types_of o p ≡ linked_types types js
types_by_places types js places enums o p a b h g =
    ap (λ z. types_of z p) h
    ∙ ap (λ z. types_of (linked_messages types (index_from 0 places) (index_from 0 enums) js) z) g
    ∙ ap (λ z. types_of (linked_messages types (index_from 0 z) (index_from 0 enums) js) (linked_enums types enums)) a
    ∙ ap (λ z. types_of (linked_messages types (index_from 0 (messages_of js)) (index_from 0 z) js)
    (linked_enums types z)) b

-- ---- types

-- where messages stand among those that are linked
abbrev pub message_place : List Joined → ℕ → Option ℕ
message_place js = index_from 0 (messages_of js)

-- where enums stand among those that are linked
abbrev pub enum_place : SetTypes → List Joined → ℕ → Option ℕ
enum_place types js = index_from 0 (reached_enums types js)

-- each message, and each enum, is linked in its place
pub record AreTypesOf (types : SetTypes) (js : List Joined) (t : Types) : Type 0 where
  pub messages : AllZip (λ j m. linked_item types (message_place js) (enum_place types js) j ≡ Some m) js t.messages
  pub enums : AllZip (λ i e. linked_enum_at types i ≡ Some e) (reached_enums types js) t.enums

-- so are the parts of types that are linked
pub types_parts : (types : SetTypes) (js : List Joined) (t : Types) → linked_types types js ≡ Some t
    → AreTypesOf types js t
types_parts types js t h =
    option_and_then_some _ (linked_messages types (message_place js) (enum_place types js) js) t h
    (λ ms e g. option_map_some _ (linked_enums types (reached_enums types js)) t g
    (λ es k same. record {
      messages = all_zip _ js t.messages (e ∙ ap (λ (z : Types). Some z.messages) same);
      enums = all_zip _ (reached_enums types js) t.enums (k ∙ ap (λ (z : Types). Some z.enums) same);
    }))

module _ (types : SetTypes) (message enum : ℕ → Option ℕ) where
  -- ---- messages

  -- a message type is linked of the message of an item
  pub record IsOfItem (j : Joined) (linked : MessageType) : Type 0 where
    pub declared : DeclaredMessage
    pub declared_is : slice_get types.messages j.message ≡ Some declared
    pub name : linked.name ≡ declared.name
    pub known : linked.known ≡ known_of declared.name
    pub fields : AllZip (λ f g. linked_field types message enum declared.syntax declared.fields f
        ≡ Some g) declared.fields linked.fields

  pub item_parts : (j : Joined) (linked : MessageType) → linked_item types message enum j ≡ Some linked
      → IsOfItem j linked
  item_parts j linked h =
      option_and_then_some _ (slice_get types.messages j.message) linked h
      (λ m e g. option_map_some _ (each_some (linked_field types message enum m.syntax m.fields) m.fields) linked g
      (λ fs k same. record {
        declared = m;
        declared_is = e;
        name = ap (λ (z : MessageType). z.name) (sym same);
        known = ap (λ (z : MessageType). z.known) (sym same);
        fields = all_zip _ m.fields linked.fields (k ∙ ap (λ (z : MessageType). Some z.fields) same);
      }))

  -- ---- fields

  -- a field is linked of a declaration
  pub record IsOfField (syntax : List ℕ) (fs : List FieldInfo) (f : FieldInfo) (g : Field) : Type 0 where
    pub name : g.name ≡ f.name
    pub json : g.json ≡ json_of f
    pub number : natural f.number ≡ Some g.number
    pub value : FieldInfo
    pub value_is : value_of types f ≡ Some value
    pub kind : linked_kind types message enum value ≡ Some g.kind
    pub shape : linked_shape types fs f ≡ Some g.shape
    pub presence : g.presence ≡ presence_of syntax fs f
    pub packed : g.packed ≡ is_packed syntax f

  pub field_parts : (syntax : List ℕ) (fs : List FieldInfo) (f : FieldInfo) (g : Field)
      → linked_field types message enum syntax fs f ≡ Some g
      → IsOfField syntax fs f g
  field_parts syntax fs f g h =
      option_and_then_some _ (natural f.number) g h
      (λ n a b. option_and_then_some _ (option_and_then (linked_kind types message enum) (value_of types f)) g b
      (λ k c d. option_and_then_some (linked_kind types message enum) (value_of types f) k c
      (λ v e i. option_map_some _ (linked_shape types fs f) g d
      (λ s l same. record {
        name = ap (λ (z : Field). z.name) (sym same);
        json = ap (λ (z : Field). z.json) (sym same);
        number = a ∙ ap (λ (z : Field). Some z.number) same;
        value = v;
        value_is = e;
        kind = i ∙ ap (λ (z : Field). Some z.kind) same;
        shape = l ∙ ap (λ (z : Field). Some z.shape) same;
        presence = ap (λ (z : Field). z.presence) (sym same);
        packed = ap (λ (z : Field). z.packed) (sym same);
      }))))
