-- The types that a set declares, linked by numbers (descriptor.proto): message types in the order in which they
-- are reached, enum types in the order of the first field that names them. Nothing is linked where a look-up fails.
use Rattle.std.specs.Prelude.{◌+◌, ◌&&◌, ◌||◌, ℕ, ℤ, zero, suc, pos, negsuc, Bool, false, List, [], ◌∷◌, nat_eq, not, Option, Some, None, is_some, if◌then◌else◌, option_and_then, option_map, unwrap_or, slice_get, codes}
use Rattle.std.specs.List.{list_any}
use Rattle.std.specs.Option.{option_map_or}
use Rattle.std.specs.Ordering.{int_eq}
use Rattle.std.specs.Str.{bytes_eq}
use Rattle.descriptors.specs.declared.file_set.FieldInfo.{FieldInfo}
use Rattle.message_types.specs.declared.enums.EnumType.{EnumType}
use Rattle.message_types.specs.declared.fields.Field.{Field}
use Rattle.message_types.specs.declared.fields.Kind.{Kind}
use Rattle.message_types.specs.declared.fields.Kind.TheVariants.{One as OneOf, Message as MessageOf}
use Rattle.message_types.specs.declared.fields.Presence.{Presence}
use Rattle.message_types.specs.declared.fields.Presence.TheVariants.{Implicit, Explicit}
use Rattle.message_types.specs.declared.fields.Scalar.{Scalar}
use Rattle.message_types.specs.declared.fields.Scalar.TheVariants.{Int32, Int64, Uint32, Uint64, Sint32, Sint64, Fixed32, Fixed64, Sfixed32, Sfixed64, Bool as BoolOf, Text as TextOf, Bytes as BytesOf, Enumeration}
use Rattle.message_types.specs.declared.fields.Shape.{Shape}
use Rattle.message_types.specs.declared.fields.Shape.TheVariants.{Single, Member, Many, Map}
use Rattle.message_types.specs.declared.messages.MessageType.{MessageType}
use Rattle.message_types.specs.declared.messages.TypeId.{TypeId}
use Rattle.message_types.specs.declared.messages.Types.{Types}
use Rattle.descriptor_pool.specs.DeclaredNames.{DeclaredMessage, DeclaredEnum}
use Rattle.descriptor_pool.specs.DeclaredTypes.{SetTypes, message_named}
use Rattle.descriptor_pool.specs.FieldTypes.{entry_value, field_enum, field_message, field_numbered, has_type, is_repeated, map_entry}
use Rattle.descriptor_pool.specs.JsonFieldNames.{json_of}
use Rattle.descriptor_pool.specs.ReachableTypes.{Joined, messages_of, reached_enums}
use Rattle.descriptor_pool.specs.WellKnownTypes.{known_of}
use Rattle.linked_types.specs.EachSome.{each_some}

-- where an index stands among some: the first that is it, counted from `k`
abbrev pub index_from : ℕ → List ℕ → ℕ → Option ℕ
index_from k [] i = None
index_from k (x ∷ xs) i = if nat_eq i x then Some k else index_from (k + 1) xs i

-- the number of the message that a type name names, among those that are reached
abbrev pub message_id : SetTypes → List Joined → List ℕ → Option TypeId
message_id types js name =
    option_map (λ i. record { 0 = i }) (option_and_then (index_from 0 (messages_of js)) (message_named types name))

-- the scalar of a type number (descriptor.proto, FieldDescriptorProto.Type); the numbers of double and float,
-- groups, messages and enums, and numbers of no type, have none
abbrev pub scalar_of : ℤ → Option Scalar
scalar_of n =
    if int_eq n (pos 3) then Some Int64 else (if int_eq n (pos 4) then Some Uint64
    else (if int_eq n (pos 5) then Some Int32 else (if int_eq n (pos 6) then Some Fixed64
    else (if int_eq n (pos 7) then Some Fixed32 else (if int_eq n (pos 8) then Some BoolOf
    else (if int_eq n (pos 9) then Some TextOf else (if int_eq n (pos 12) then Some BytesOf
    else (if int_eq n (pos 13) then Some Uint32 else (if int_eq n (pos 15) then Some Sfixed32
    else (if int_eq n (pos 16) then Some Sfixed64 else (if int_eq n (pos 17) then Some Sint32
    else (if int_eq n (pos 18) then Some Sint64 else None))))))))))))

-- the field that has the type of one value of a field: of a map its entry's second, which an entry must have, else
-- the field itself
abbrev pub value_of : SetTypes → FieldInfo → Option FieldInfo
value_of types f = option_map_or entry_value (map_entry types f) (Some f)

-- the message type that has the number of an index
abbrev pub message_kind : (ℕ → Option ℕ) → Option ℕ → Option Kind
message_kind message o = option_map (λ i. MessageOf (record { 0 = i })) (option_and_then message o)

-- the enum type that has the number of an index
abbrev pub enum_kind : (ℕ → Option ℕ) → Option ℕ → Option Kind
enum_kind enum o = option_map (λ i. OneOf (Enumeration (record { 0 = i }))) (option_and_then enum o)

-- the scalar of a type number, as what a value is
abbrev pub scalar_kind : ℤ → Option Kind
scalar_kind n = option_map (λ s. OneOf s) (scalar_of n)

-- what one value of a field is, where `v` is the field that has its type; `message` and `enum` give the numbers
-- of types
abbrev pub linked_kind : SetTypes → (ℕ → Option ℕ) → (ℕ → Option ℕ) → FieldInfo → Option Kind
linked_kind types message enum v =
    if has_type 11 v then message_kind message (field_message types v)
    else (if has_type 14 v then enum_kind enum (field_enum types v)
    else scalar_kind v.type_number)

-- what one value of a field is
abbrev pub value_kind : SetTypes → (ℕ → Option ℕ) → (ℕ → Option ℕ) → FieldInfo → Option Kind
value_kind types message enum f = option_and_then (linked_kind types message enum) (value_of types f)

-- a field is a member of the oneof of an index
abbrev pub is_member_of : ℕ → FieldInfo → Bool
is_member_of i f = option_map_or (λ z. int_eq z (pos i)) f.oneof_index false

-- a field makes the oneof of an index a real one: it is a member, and not optional in proto3
abbrev pub makes_real : ℕ → FieldInfo → Bool
makes_real i f = is_member_of i f && not f.proto3_optional

-- a oneof is real: not all of its members are optional in proto3
abbrev pub is_real : List FieldInfo → ℕ → Bool
is_real fs i = list_any (makes_real i) fs

-- how many real oneofs stand before the one of an index
abbrev pub real_before : List FieldInfo → ℕ → ℕ
real_before fs zero = 0
real_before fs (suc i) = real_before fs i + (if is_real fs i then 1 else 0)

-- a number that is not negative
abbrev pub natural : ℤ → Option ℕ
natural (pos n) = Some n
natural (negsuc n) = None

-- the number of the real oneof of an index among the real ones
abbrev pub real_number : List FieldInfo → ℕ → Option ℕ
real_number fs i = if is_real fs i then Some (real_before fs i) else None

-- the number of the real oneof of an index; none has a negative one
abbrev pub real_oneof : List FieldInfo → Option ℤ → Option ℕ
real_oneof fs None = None
real_oneof fs (Some (pos i)) = real_number fs i
real_oneof fs (Some (negsuc n)) = None

-- the scalar of the keys of a map, by its entry
abbrev pub key_scalar : DeclaredMessage → Option Scalar
key_scalar entry = option_and_then (λ (k : FieldInfo). scalar_of k.type_number) (field_numbered (pos 1) entry.fields)

-- how many values a field has, if it is no map
abbrev pub plain_shape : List FieldInfo → FieldInfo → Shape
plain_shape fs f = if is_repeated f then Many else option_map_or (λ k. Member k) (real_oneof fs f.oneof_index) Single

-- how many values a field has
abbrev pub linked_shape : SetTypes → List FieldInfo → FieldInfo → Option Shape
linked_shape types fs f =
    option_map_or (λ e. option_map (λ s. Map s) (key_scalar e)) (map_entry types f) (Some (plain_shape fs f))

-- a file has the syntax proto3
abbrev pub is_proto3 : List ℕ → Bool
is_proto3 syntax = bytes_eq syntax (codes "proto3")

-- a field has explicit presence in proto3 where it is a singular message, a member of a real oneof or optional, and
-- in a file of any other syntax where it is singular (descriptor.proto, FieldDescriptorProto.proto3_optional)
abbrev pub is_explicit : List ℕ → List FieldInfo → FieldInfo → Bool
is_explicit syntax fs f =
    not (is_repeated f)
    && (not (is_proto3 syntax) || (has_type 11 f || (is_some (real_oneof fs f.oneof_index) || f.proto3_optional)))

-- the presence of a field of a message with these fields
abbrev pub presence_of : List ℕ → List FieldInfo → FieldInfo → Presence
presence_of syntax fs f = if is_explicit syntax fs f then Explicit else Implicit

-- a list of numbers, bools or enums, in a file of this syntax, that is declared packed, or not declared otherwise
-- in proto3 (encoding guide, "Packed Repeated Fields"): types 9 string, 10 group, 11 message and 12 bytes are none
-- of these
abbrev pub is_packed : List ℕ → FieldInfo → Bool
is_packed syntax f =
    is_repeated f
    && (not (has_type 9 f || (has_type 11 f || (has_type 12 f || has_type 10 f)))
    && unwrap_or f.packed (is_proto3 syntax))

-- a field with this number, kind and shape, of a declaration in a message with these fields, in a file of this syntax
abbrev pub field_with : List ℕ → List FieldInfo → FieldInfo → ℕ → Kind → Shape → Field
field_with syntax fs f number kind shape = record {
  name = f.name;
  json = json_of f;
  number = number;
  kind = kind;
  shape = shape;
  presence = presence_of syntax fs f;
  packed = is_packed syntax f;
}

-- the field of a declaration in a message with these fields, in a file of this syntax
abbrev pub linked_field : SetTypes → (ℕ → Option ℕ) → (ℕ → Option ℕ) → List ℕ → List FieldInfo → FieldInfo
    → Option Field
linked_field types message enum syntax fs f =
    option_and_then (λ number.
    option_and_then (λ kind. option_map (field_with syntax fs f number kind) (linked_shape types fs f))
    (value_kind types message enum f))
    (natural f.number)

-- a message type with these fields, of a declared message
abbrev pub message_with : DeclaredMessage → List Field → MessageType
message_with m fields = record { name = m.name; known = known_of m.name; fields = fields }

-- the message type of a declared message
abbrev pub linked_message : SetTypes → (ℕ → Option ℕ) → (ℕ → Option ℕ) → DeclaredMessage → Option MessageType
linked_message types message enum m =
    option_map (message_with m) (each_some (linked_field types message enum m.syntax m.fields) m.fields)

-- the message type of a message that is reached
abbrev pub linked_item : SetTypes → (ℕ → Option ℕ) → (ℕ → Option ℕ) → Joined → Option MessageType
linked_item types message enum j =
    option_and_then (linked_message types message enum) (slice_get types.messages j.message)

-- the message types of messages that are reached
abbrev pub linked_messages : SetTypes → (ℕ → Option ℕ) → (ℕ → Option ℕ) → List Joined → Option (List MessageType)
linked_messages types message enum js = each_some (linked_item types message enum) js

-- the enum type of a declared enum
abbrev pub linked_enum : DeclaredEnum → EnumType
linked_enum e = record { name = e.name; values = e.values }

-- the enum type of an enum, by its index in the set
abbrev pub linked_enum_at : SetTypes → ℕ → Option EnumType
linked_enum_at types i = option_map linked_enum (slice_get types.enums i)

-- the enum types of enums, by their indexes in the set
abbrev pub linked_enums : SetTypes → List ℕ → Option (List EnumType)
linked_enums types is = each_some (linked_enum_at types) is

-- types of these messages and enums, where there are both
abbrev pub types_of : Option (List MessageType) → Option (List EnumType) → Option Types
types_of messages enums =
    option_and_then (λ ms. option_map (λ es. record { messages = ms; enums = es }) enums) messages

-- the types that are linked of what is reached
abbrev pub linked_types : SetTypes → List Joined → Option Types
linked_types types js =
    types_of (linked_messages types (index_from 0 (messages_of js)) (index_from 0 (reached_enums types js)) js)
    (linked_enums types (reached_enums types js))
