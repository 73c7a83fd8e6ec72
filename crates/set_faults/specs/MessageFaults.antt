-- Faults of a message that a method reaches (descriptor.proto, the ProtoJSON guide).
use Rattle.std.specs.Prelude.{◌++◌, ◌&&◌, ◌||◌, ◌==◌, ℕ, ℤ, pos, negsuc, Bool, true, false, List, [], ◌∷◌, length, map, codes, nat_le, nat_lt, not, Option, Some, None, is_some, is_none, if◌then◌else◌, option_and_then, slice_get}
use Rattle.std.specs.List.{flat_map, list_any}
use Rattle.std.specs.Option.{option_map_or}
use Rattle.std.specs.Ordering.{int_eq}
use Rattle.std.specs.Set.{distinct_count}
use Rattle.std.specs.Str.{bytes_eq}
use Rattle.descriptors.specs.declared.file_set.FieldInfo.{FieldInfo}
use Rattle.message_types.specs.declared.enums.EnumValue.{EnumValue}
use Rattle.descriptor_pool.specs.DeclaredNames.{DeclaredMessage, DeclaredEnum}
use Rattle.descriptor_pool.specs.DeclaredTypes.{SetTypes, enum_named, message_named}
use Rattle.descriptor_pool.specs.FieldTypes.{has_type, is_repeated, map_entry, value_field}
use Rattle.descriptor_pool.specs.JsonFieldNames.{json_of}
use Rattle.set_faults.specs.LinkFaults.{fault_if}
use Rattle.descriptor_pool.specs.ReachableTypes.{Joined}
use Rattle.descriptor_pool.specs.WellKnownTypes.{are_published}
use Rattle.set_faults.specs.declared.fault.LinkFault.{LinkFault}
use Rattle.set_faults.specs.declared.fault.LinkFault.TheVariants.{At}
use Rattle.set_faults.specs.declared.fault.LinkKind.TheVariants.{UnknownType, Proto2, Edition, AnyType, StructType, Extension, KnownShape, BadField, Group, Float, BadEnum, SameJsonName}

-- a syntax is proto2: absent, empty or named
abbrev pub is_proto2 : List ℕ → Bool
is_proto2 syntax = (length syntax == 0) || bytes_eq syntax (codes "proto2")

-- a message is one of struct.proto
abbrev pub is_struct : List ℕ → Bool
is_struct name =
    bytes_eq name (codes "google.protobuf.Struct")
    || (bytes_eq name (codes "google.protobuf.Value") || bytes_eq name (codes "google.protobuf.ListValue"))

-- a message is extended by the set, or is a message set
abbrev pub has_extensions : SetTypes → DeclaredMessage → Bool
has_extensions types m = list_any (bytes_eq m.name) types.extended || m.is_message_set

-- the faults of a message before those of its fields
abbrev pub head_faults : SetTypes → List ℕ → DeclaredMessage → List LinkFault
head_faults types path m =
    fault_if (is_proto2 m.syntax) (At Proto2 m.name [])
    ++ (fault_if (not (is_proto2 m.syntax || bytes_eq m.syntax (codes "proto3"))) (At Edition m.name [])
    ++ (fault_if (bytes_eq m.name (codes "google.protobuf.Any")) (At AnyType m.name path)
    ++ (fault_if (is_struct m.name) (At StructType m.name path)
    ++ (fault_if (has_extensions types m) (At Extension m.name [])
    ++ fault_if (not (are_published m.name m.fields)) (At KnownShape m.name [])))))

-- a field number is from 1 to 536,870,911
abbrev pub is_field_number : ℤ → Bool
is_field_number (pos n) = nat_le 1 n && nat_le n 536870911
is_field_number (negsuc n) = false

-- a type is one of the list, from 1 double to 18 sint64
abbrev pub is_type_number : ℤ → Bool
is_type_number (pos n) = nat_le 1 n && nat_le n 18
is_type_number (negsuc n) = false

-- an oneof index names one of so many
abbrev pub is_oneof_index : ℕ → Option ℤ → Bool
is_oneof_index len None = true
is_oneof_index len (Some (pos n)) = nat_lt n len
is_oneof_index len (Some (negsuc n)) = false

-- a field is a member of a oneof, or optional in proto3
abbrev pub is_oneof_or_optional : FieldInfo → Bool
is_oneof_or_optional f = is_some f.oneof_index || f.proto3_optional

-- a label is lawful: optional, or repeated without a oneof
abbrev pub is_lawful_label : FieldInfo → Bool
is_lawful_label f = int_eq f.label (pos 1) || (is_repeated f && not (is_oneof_or_optional f))

-- the type of a map's key: an integer, a bool or a string
abbrev pub is_key_type : ℤ → Bool
is_key_type (pos n) = nat_le 3 n && (nat_le n 9 || ((n == 13) || (nat_le 15 n && nat_le n 18)))
is_key_type (negsuc n) = false

-- a field of an entry: of this name and number, optional, and in no oneof
abbrev pub is_entry_field : List ℕ → ℕ → FieldInfo → Bool
is_entry_field name number f =
    bytes_eq f.name name && (int_eq f.number (pos number) && (int_eq f.label (pos 1) && not (is_oneof_or_optional f)))

-- a field is the key of a map's entry, of a type that a key can have
abbrev pub is_entry_key : FieldInfo → Bool
is_entry_key f = is_entry_field (codes "key") 1 f && is_key_type f.type_number

-- a field is the value of a map's entry
abbrev pub is_entry_value : FieldInfo → Bool
is_entry_value f = is_entry_field (codes "value") 2 f && is_type_number f.type_number

-- the entry of a map has two fields, its key and its value
abbrev pub is_lawful_entry : DeclaredMessage → Bool
is_lawful_entry m = (length m.fields == 2) && (list_any is_entry_key m.fields && list_any is_entry_value m.fields)

-- the entry of a field is lawful, where the field is a map
abbrev pub has_lawful_entry : SetTypes → FieldInfo → Bool
has_lawful_entry types f = option_map_or is_lawful_entry (map_entry types f) true

-- a field is lawful, where its number came before it or not
abbrev pub is_lawful_field : SetTypes → DeclaredMessage → Bool → FieldInfo → Bool
is_lawful_field types m came_before f =
    is_field_number f.number
    && (not came_before
    && (is_type_number f.type_number
    && (is_lawful_label f
    && (is_oneof_index (length m.oneofs) f.oneof_index && has_lawful_entry types f))))

-- the name of a field: the message's full name, a dot and the field's name
abbrev pub field_name : DeclaredMessage → FieldInfo → List ℕ
field_name m f = m.name ++ 46 ∷ f.name

-- the number of the first value of an enum is 0
abbrev pub begins_with_zero : List EnumValue → Bool
begins_with_zero [] = false
begins_with_zero (v ∷ vs) = int_eq v.number (pos 0)

-- an enum has a value, no name twice, and 0 first
abbrev pub is_lawful_enum : List EnumValue → Bool
is_lawful_enum vs = begins_with_zero vs && (distinct_count bytes_eq (map (λ v. v.name) vs) == length vs)

-- the faults of a field whose type is an enum, where the set has it or not
abbrev pub enum_faults : List ℕ → List ℕ → List ℕ → Option DeclaredEnum → List LinkFault
enum_faults name path type_name None = At UnknownType name type_name ∷ []
enum_faults name path type_name (Some e) =
    fault_if (bytes_eq e.name (codes "google.protobuf.NullValue")) (At StructType name path)
    ++ fault_if (not (is_lawful_enum e.values)) (At BadEnum e.name [])

-- the enum of a type name
abbrev pub enum_of : SetTypes → List ℕ → Option DeclaredEnum
enum_of types type_name = option_and_then (slice_get types.enums) (enum_named types type_name)

-- the faults of a type, if it is an enum
abbrev pub enum_type_faults : SetTypes → List ℕ → List ℕ → FieldInfo → List LinkFault
enum_type_faults types name path v = if has_type 14 v then enum_faults name path v.type_name (enum_of types v.type_name) else []

-- the faults of a type: `v` is the field that has it, `name` the one that is named
abbrev pub type_faults : SetTypes → List ℕ → List ℕ → FieldInfo → List LinkFault
type_faults types name path v =
    fault_if (has_type 10 v) (At Group name [])
    ++ (fault_if (has_type 1 v || has_type 2 v) (At Float name path)
    ++ (fault_if (has_type 11 v && is_none (message_named types v.type_name)) (At UnknownType name v.type_name)
    ++ enum_type_faults types name path v))

-- the faults of a field, where its number came before it or not
abbrev pub field_faults : SetTypes → List ℕ → DeclaredMessage → Bool → FieldInfo → List LinkFault
field_faults types path m came_before f =
    fault_if (not (is_lawful_field types m came_before f)) (At BadField (field_name m f) [])
    ++ type_faults types (field_name m f) path (value_field types f)

-- the faults of fields, in order, where fields of these numbers came before
abbrev pub fields_faults : SetTypes → List ℕ → DeclaredMessage → List ℤ → List FieldInfo → List LinkFault
fields_faults types path m before [] = []
fields_faults types path m before (f ∷ fs) =
    field_faults types path m (list_any (int_eq f.number) before) f ++ fields_faults types path m (before ++ f.number ∷ []) fs

-- a key that fields before have
abbrev pub key_fault : DeclaredMessage → List (List ℕ) → List ℕ → List LinkFault
key_fault m before key = fault_if (list_any (bytes_eq key) before) (At SameJsonName m.name key)

-- the faults of names: a name or a JSON name that is one of an earlier field
abbrev pub json_faults : DeclaredMessage → List (List ℕ) → List FieldInfo → List LinkFault
json_faults m before [] = []
json_faults m before (f ∷ fs) =
    key_fault m before f.name ++ (key_fault m before (json_of f) ++ json_faults m (before ++ f.name ∷ json_of f ∷ []) fs)

-- the faults of a message that joined through the method of this path
abbrev pub message_faults : SetTypes → List ℕ → DeclaredMessage → List LinkFault
message_faults types path m = head_faults types path m ++ (fields_faults types path m [] m.fields ++ json_faults m [] m.fields)

-- the faults of the message of an item of the queue
abbrev pub joined_faults : SetTypes → Joined → List LinkFault
joined_faults types j = option_map_or (message_faults types j.path) (slice_get types.messages j.message) []

-- the faults of all messages that are reached, in order
abbrev pub reached_faults : SetTypes → List Joined → List LinkFault
reached_faults types js = flat_map (joined_faults types) js
