-- Worked examples of fields that are linked, in the words of descriptor.proto and of the encoding guide, computed by
-- the definitions.
use Rattle.std.specs.Prelude.{◌≡◌, ℕ, pos, negsuc, true, false, List, [], ◌∷◌, codes, Option, Some, None, option_map}
use Rattle.descriptors.specs.declared.file_set.FieldInfo.{FieldInfo}
use Rattle.linked_types.specs.ExampleFields.{colour_field, declared_field, int32_field, int32_list, int32_list_with, member_of, oneof_fields, optional_of, page_counts, proto2, proto3, shelf_field, shop_message, shop_types, stock_map}
use Rattle.linked_types.specs.LinkedTypes.{index_from, is_packed, linked_field, linked_message, linked_shape, plain_shape, presence_of, scalar_of, value_kind}
use Rattle.message_types.specs.declared.fields.Field.{Field}
use Rattle.message_types.specs.declared.fields.Kind.{Kind}
use Rattle.message_types.specs.declared.fields.Kind.TheVariants.{One as OneOf, Message as MessageOf}
use Rattle.message_types.specs.declared.fields.Presence.{Presence}
use Rattle.message_types.specs.declared.fields.Presence.TheVariants.{Implicit, Explicit}
use Rattle.message_types.specs.declared.fields.Scalar.TheVariants.{Int32, Int64, Uint32, Uint64, Sint32, Sint64, Fixed32, Fixed64, Sfixed32, Sfixed64, Bool as BoolOf, Text as TextOf, Bytes as BytesOf, Enumeration}
use Rattle.message_types.specs.declared.fields.Shape.{Shape}
use Rattle.message_types.specs.declared.fields.Shape.TheVariants.{Single, Member, Many, Map}
use Rattle.message_types.specs.declared.messages.Known.{Known}
use Rattle.message_types.specs.declared.messages.Known.TheVariants.{Plain, Timestamp, Duration, FieldMask, Wrapper}

-- the scalar of each number of FieldDescriptorProto.Type, TYPE_DOUBLE = 1 to TYPE_SINT64 = 18
pub record TypeExamplesHold : Type 0 where
  pub double : scalar_of (pos 1) ≡ None
  pub float : scalar_of (pos 2) ≡ None
  pub int64 : scalar_of (pos 3) ≡ Some Int64
  pub uint64 : scalar_of (pos 4) ≡ Some Uint64
  pub int32 : scalar_of (pos 5) ≡ Some Int32
  pub fixed64 : scalar_of (pos 6) ≡ Some Fixed64
  pub fixed32 : scalar_of (pos 7) ≡ Some Fixed32
  pub bool : scalar_of (pos 8) ≡ Some BoolOf
  pub string : scalar_of (pos 9) ≡ Some TextOf
  pub group : scalar_of (pos 10) ≡ None
  pub message : scalar_of (pos 11) ≡ None
  pub bytes : scalar_of (pos 12) ≡ Some BytesOf
  pub uint32 : scalar_of (pos 13) ≡ Some Uint32
  pub enum : scalar_of (pos 14) ≡ None
  pub sfixed32 : scalar_of (pos 15) ≡ Some Sfixed32
  pub sfixed64 : scalar_of (pos 16) ≡ Some Sfixed64
  pub sint32 : scalar_of (pos 17) ≡ Some Sint32
  pub sint64 : scalar_of (pos 18) ≡ Some Sint64
  -- numbers of no type
  pub zero : scalar_of (pos 0) ≡ None
  pub nineteen : scalar_of (pos 19) ≡ None
  pub negative : scalar_of (negsuc 0) ≡ None

-- which lists are packed (encoding guide, "Packed Repeated Fields")
pub record PackingExamplesHold : Type 0 where
  -- in proto3 a list of numbers is packed where it is not declared otherwise
  pub absent : is_packed proto3 int32_list ≡ true
  pub declared : is_packed proto3 (int32_list_with true) ≡ true
  pub declined : is_packed proto3 (int32_list_with false) ≡ false
  -- in proto2 it is packed where it is declared so
  pub proto2_absent : is_packed proto2 int32_list ≡ false
  pub proto2_declared : is_packed proto2 (int32_list_with true) ≡ true
  pub proto2_declined : is_packed proto2 (int32_list_with false) ≡ false
  -- bools and enums are packed as numbers are; strings, bytes, messages and groups are not
  pub bools : is_packed proto3 (declared_field 3 8) ≡ true
  pub enums : is_packed proto3 (declared_field 3 14) ≡ true
  pub strings : is_packed proto3 (declared_field 3 9) ≡ false
  pub bytes : is_packed proto3 (declared_field 3 12) ≡ false
  pub messages : is_packed proto3 (declared_field 3 11) ≡ false
  pub groups : is_packed proto3 (declared_field 3 10) ≡ false
  -- a singular field is no list
  pub singular : is_packed proto3 int32_field ≡ false

-- the presence of a field that is the only one of its message
abbrev pub presence_alone : List ℕ → FieldInfo → Presence
presence_alone syntax f = presence_of syntax (f ∷ []) f

-- which fields track presence (descriptor.proto, FieldDescriptorProto.proto3_optional)
pub record PresenceExamplesHold : Type 0 where
  pub plain : presence_alone proto3 int32_field ≡ Implicit
  pub string : presence_alone proto3 (declared_field 1 9) ≡ Implicit
  pub enum : presence_alone proto3 (declared_field 1 14) ≡ Implicit
  pub optional : presence_alone proto3 (record int32_field { proto3_optional = true }) ≡ Explicit
  pub optional_in_its_oneof : presence_alone proto3 (optional_of 0) ≡ Explicit
  pub member : presence_alone proto3 (member_of 0) ≡ Explicit
  pub message : presence_alone proto3 (shelf_field 1) ≡ Explicit
  pub list : presence_alone proto3 int32_list ≡ Implicit
  pub message_list : presence_alone proto3 (shelf_field 3) ≡ Implicit
  -- in proto2 each singular field tracks it
  pub proto2_plain : presence_alone proto2 int32_field ≡ Explicit
  pub proto2_list : presence_alone proto2 int32_list ≡ Implicit

-- the shape of a field that is no map, in the message with two real oneofs
abbrev pub oneof_shape : FieldInfo → Shape
oneof_shape f = plain_shape oneof_fields f

-- how many values a field has
pub record ShapeExamplesHold : Type 0 where
  pub plain : oneof_shape int32_field ≡ Single
  pub list : oneof_shape int32_list ≡ Many
  -- real oneofs are counted; one that holds an optional field alone is not real
  pub first : oneof_shape (member_of 0) ≡ Member 0
  pub optional : oneof_shape (optional_of 1) ≡ Single
  pub second : oneof_shape (member_of 2) ≡ Member 1
  pub negative : oneof_shape (record int32_field { oneof_index = Some (negsuc 0) }) ≡ Single
  -- a map has the key of its entry; any other list of messages is no map
  pub map : linked_shape shop_types [] stock_map ≡ Some (Map TextOf)
  pub messages : linked_shape shop_types [] (shelf_field 3) ≡ Some Many

-- where messages of the set are linked: the second first
abbrev pub linked_messages_of_shop : ℕ → Option ℕ
linked_messages_of_shop i = index_from 0 (1 ∷ 0 ∷ []) i

-- where enums of the set are linked: the second alone
abbrev pub linked_enums_of_shop : ℕ → Option ℕ
linked_enums_of_shop i = index_from 0 (1 ∷ []) i

-- what one value of a field of the set is
abbrev pub kind_in_shop : FieldInfo → Option Kind
kind_in_shop f = value_kind shop_types linked_messages_of_shop linked_enums_of_shop f

-- what one value of a field is
pub record KindExamplesHold : Type 0 where
  pub scalar : kind_in_shop (declared_field 1 15) ≡ Some (OneOf Sfixed32)
  pub message : kind_in_shop (shelf_field 1) ≡ Some (MessageOf (record { 0 = 1 }))
  pub enum : kind_in_shop colour_field ≡ Some (OneOf (Enumeration (record { 0 = 0 })))
  -- a value of a map is one of its entry's second field; an entry that is not repeated is a message
  pub map : kind_in_shop stock_map ≡ Some (OneOf Sint64)
  pub entry : kind_in_shop (record stock_map { label = pos 1 }) ≡ Some (MessageOf (record { 0 = 0 }))
  -- a type name that names nothing, an enum that is not reached, and a type that is not linked
  pub unknown : kind_in_shop (record (shelf_field 1) { type_name = codes ".shop.Book" }) ≡ None
  pub apart : kind_in_shop (record colour_field { type_name = codes ".shop.Size" }) ≡ None
  pub double : kind_in_shop (declared_field 1 1) ≡ None

-- the field that is linked of a declaration of the set, which is the only one of its message, in a proto3 file
abbrev pub linked_in_shop : FieldInfo → Option Field
linked_in_shop f = linked_field shop_types linked_messages_of_shop linked_enums_of_shop proto3 (f ∷ []) f

-- whole fields
pub record WholeExamplesHold : Type 0 where
  pub list : linked_in_shop page_counts
      ≡ Some (record {
        name = codes "page_counts";
        json = codes "pageCounts";
        number = 4;
        kind = OneOf Int32;
        shape = Many;
        presence = Implicit;
        packed = true;
      })
  pub declared_json : linked_in_shop (record int32_field { json_name = Some (codes "n") })
      ≡ Some (record {
        name = codes "count";
        json = codes "n";
        number = 1;
        kind = OneOf Int32;
        shape = Single;
        presence = Implicit;
        packed = false;
      })
  pub negative : linked_in_shop (record int32_field { number = negsuc 0 }) ≡ None

-- which well-known type is linked of a message of this full name, without fields
abbrev pub known_in_shop : List ℕ → Option Known
known_in_shop name =
    option_map (λ m. m.known)
    (linked_message shop_types linked_messages_of_shop linked_enums_of_shop (shop_message name [] false))

-- well-known types are known by their full names (timestamp.proto, duration.proto, field_mask.proto, wrappers.proto)
pub record KnownExamplesHold : Type 0 where
  pub timestamp : known_in_shop (codes "google.protobuf.Timestamp") ≡ Some Timestamp
  pub duration : known_in_shop (codes "google.protobuf.Duration") ≡ Some Duration
  pub field_mask : known_in_shop (codes "google.protobuf.FieldMask") ≡ Some FieldMask
  pub int32_value : known_in_shop (codes "google.protobuf.Int32Value") ≡ Some Wrapper
  pub shelf : known_in_shop (codes "shop.Shelf") ≡ Some Plain
  pub elsewhere : known_in_shop (codes "shop.Timestamp") ≡ Some Plain

-- what is linked of fields, and of messages by their names
pub record LinkedFieldExamplesHold : Type 0 where
  pub types : TypeExamplesHold
  pub packing : PackingExamplesHold
  pub presence : PresenceExamplesHold
  pub shapes : ShapeExamplesHold
  pub kinds : KindExamplesHold
  pub whole : WholeExamplesHold
  pub known : KnownExamplesHold
