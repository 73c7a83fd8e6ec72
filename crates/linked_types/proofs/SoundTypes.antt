-- What is linked of messages that are linkable is sound.
use Rattle.std.proofs.Common.{◌≡◌, ℕ, Bool, true, false, cond, List, [], Option, Some, None, refl, sym, ap, subst, ◌∙◌, slice_get}
use Rattle.std.proofs.lemmas.List.Elements.{All-contains, All-from_recursion}
use Rattle.std.proofs.lemmas.Option.{same_Some}
use Rattle.std.specs.List.{AllByRecursion, Contains}
use Rattle.std.specs.Option.{option_map_or}
use Rattle.descriptors.specs.declared.file_set.FieldInfo.{FieldInfo}
use Rattle.base.proofs.EachLemmas.{each_weaker}
use Rattle.descriptor_pool.specs.DeclaredNames.{DeclaredMessage}
use Rattle.descriptor_pool.specs.DeclaredTypes.{SetTypes, enum_named}
use Rattle.descriptor_pool.specs.FieldTypes.{field_enum, has_type, value_field}
use Rattle.descriptor_pool.specs.ReachableTypes.{Joined, fields_at, reachable, reached_enums}
use Rattle.descriptor_pool.specs.ReachedClosure.{HaveEnums, IsNamedBy, IsReachClosed}
use Rattle.descriptor_pool.specs.SetMethods.{BoundMethod}
use Rattle.schema.specs.Soundness.{HasKnownFields, IsSound, IsSoundEnum, IsSoundField, IsSoundMessage}
use Rattle.message_types.specs.declared.enums.EnumType.{EnumType}
use Rattle.message_types.specs.declared.fields.Field.{Field}
use Rattle.message_types.specs.declared.messages.MessageType.{MessageType}
use Rattle.message_types.specs.declared.messages.Types.{Types}
use Rattle.linked_types.specs.LinkableTypes.{AreLinkable, IsLinkableField, IsLinkableItem, IsSoundAt}
use Rattle.linked_types.specs.LinkedTypes.{linked_enum, linked_enum_at, linked_field, linked_item, linked_types}
use Rattle.linked_types.proofs.EachSomeLemmas.{each_zip, option_map_some, zip_weaker}
use Rattle.linked_types.proofs.KnownFields.{known_fields}
use Rattle.linked_types.proofs.LinkedParts.{AreTypesOf, enum_place, field_parts, item_parts, message_place, types_parts}
use Rattle.linked_types.proofs.NamedTypes.{finds_name, natural_is}
use Rattle.linked_types.proofs.SoundFields.{field_sound}
use Rattle.linked_types.proofs.SoundKeys.{HasKeys, keys_apart, numbers_apart}

-- what holds of each item of a list holds of one of it
each_of : {X : Type 0} (P : X → Type 0) (xs : List X) (x : X) → AllByRecursion P xs → Contains xs x → P x
each_of P xs x a h = All-contains P xs x (All-from_recursion P xs a) h

module _ (types : SetTypes) where
  -- the enum that a linkable field names is sound
  enum_sound : (f : FieldInfo) → IsLinkableField types f → (i : ℕ) → field_enum types (value_field types f) ≡ Some i
      → IsSoundAt types i
  enum_sound f k i h = pick (has_type 14 (value_field types f)) refl h
    where
      pick : (b : Bool) → has_type 14 (value_field types f) ≡ b
          → cond b (enum_named types (value_field types f).type_name) None ≡ Some i → IsSoundAt types i
      pick false e g = absurd (cc g)
      pick true e g =
          let found = k.value.enum e in
          let same : found.index ≡ i = cc (found.index_is, g) in
          subst (IsSoundAt types) same found.sound

  -- the enums that the fields of a linkable item name are sound
  enums_sound : (j : Joined) → IsLinkableItem types j → HaveEnums types (IsSoundAt types) (fields_at types j.message)
  enums_sound j h = pick (slice_get types.messages j.message) refl
    where
      pick : (o : Option DeclaredMessage) → slice_get types.messages j.message ≡ o
          → HaveEnums types (IsSoundAt types) (option_map_or (λ (m : DeclaredMessage). m.fields) o [])
      pick None e = tt
      pick (Some m) e = each_weaker (IsLinkableField types)
          (λ f. (i : ℕ) → field_enum types (value_field types f) ≡ Some i → IsSoundAt types i) enum_sound m.fields
          (h m e).fields

  module _ (js : List Joined) (t : Types) (parts : AreTypesOf types js t) where
    -- a field is linked of one of a message
    abbrev IsLinkIn : DeclaredMessage → FieldInfo → Field → Type 0
    IsLinkIn m f g = linked_field types (message_place js) (enum_place types js) m.syntax m.fields f ≡ Some g

    sound_field : (m : DeclaredMessage) (f : FieldInfo) (g : Field) → IsLinkIn m f g → IsLinkableField types f
        → IsSoundField t g
    sound_field m f g h k =
        let field = field_parts types (message_place js) (enum_place types js) m.syntax m.fields f g h in
        field_sound types (message_place js) (enum_place types js) m.syntax m.fields f g k field t
        (finds_name types js t parts field.value g.kind field.kind)

    has_keys : (m : DeclaredMessage) (f : FieldInfo) (g : Field) → IsLinkIn m f g → HasKeys f g
    has_keys m f g h =
        let field = field_parts types (message_place js) (enum_place types js) m.syntax m.fields f g h in
        record { name = field.name; json = field.json; number = natural_is f.number g.number field.number }

    -- the message type of a linkable item is sound
    message_sound : (j : Joined) (linked : MessageType)
        → linked_item types (message_place js) (enum_place types js) j ≡ Some linked → IsLinkableItem types j
        → IsSoundMessage t linked
    message_sound j linked h k =
        let item = item_parts types (message_place js) (enum_place types js) j linked h in
        let m = item.declared in
        let own = k m item.declared_is in
        let keys = zip_weaker (IsLinkIn m) HasKeys (has_keys m) m.fields linked.fields item.fields in
        record {
          fields = each_zip (IsLinkIn m) (IsLinkableField types) (IsSoundField t)
              (sound_field m) m.fields linked.fields item.fields own.fields;
          numbers = numbers_apart m.fields linked.fields keys own.numbers;
          keys = keys_apart m.fields linked.fields keys own.names;
          known = subst (λ z. HasKnownFields z linked.fields) (sym item.known)
              (known_fields types (message_place js)
              (enum_place types js) m.syntax own.syntax m.fields linked.fields item.fields m.name own.known);
        }

    enum_at_sound : (i : ℕ) (e : EnumType) → linked_enum_at types i ≡ Some e → IsSoundAt types i → IsSoundEnum e
    enum_at_sound i e h k =
        option_map_some linked_enum (slice_get types.enums i) e h
        (λ d at is. subst IsSoundEnum (ap linked_enum (same_Some k.enum d (sym k.enum_is ∙ at)) ∙ is) k.sound)

-- the types that are linked of messages that are linkable are sound
pub types_sound : (types : SetTypes) (ms : List BoundMethod) (t : Types) → IsReachClosed types ms
    → AreLinkable types (reachable types ms)
    → linked_types types (reachable types ms) ≡ Some t → IsSound t
types_sound types ms t closed linkable h =
    let js = reachable types ms in
    let parts = types_parts types js t h in
    let named : (i : ℕ) → IsNamedBy types js i → IsSoundAt types i =
    λ i n. each_of (λ f. (k : ℕ) → field_enum types (value_field types f) ≡ Some k → IsSoundAt types k)
    (fields_at types n.item.message) n.field
    (enums_sound types n.item (each_of (IsLinkableItem types) js n.item linkable n.among)) n.inside i n.names in
    record {
      messages = each_zip _ (IsLinkableItem types) (IsSoundMessage t)
          (message_sound types js t parts) js t.messages parts.messages linkable;
      enums = each_zip _ (IsSoundAt types) IsSoundEnum (enum_at_sound types js t parts)
          (reached_enums types js) t.enums parts.enums
          (each_weaker (IsNamedBy types js) (IsSoundAt types) named (reached_enums types js) closed.enums_named);
    }
