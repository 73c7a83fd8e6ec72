-- The type of a declared field, and maps (descriptor.proto, FieldDescriptorProto). Labels are 1 optional,
-- 2 required, 3 repeated; types are 1 double to 18 sint64.
use Rattle.std.specs.Prelude.{ℕ, ℤ, pos, Bool, List, [], ◌∷◌, Option, Some, None, if◌then◌else◌, option_and_then, slice_get, unwrap_or}
use Rattle.std.specs.Ordering.{int_eq}
use Rattle.descriptors.specs.declared.file_set.FieldInfo.{FieldInfo}
use Rattle.descriptor_pool.specs.DeclaredNames.{DeclaredMessage}
use Rattle.descriptor_pool.specs.DeclaredTypes.{SetTypes, message_named, enum_named}

-- a field is repeated
abbrev pub is_repeated : FieldInfo → Bool
is_repeated f = int_eq f.label (pos 3)

-- a field has the type of this number
abbrev pub has_type : ℕ → FieldInfo → Bool
has_type n f = int_eq f.type_number (pos n)

-- the index of the message that a field's type names, where that type is a message
abbrev pub field_message : SetTypes → FieldInfo → Option ℕ
field_message types f = if has_type 11 f then message_named types f.type_name else None

-- the index of the enum that a field's type names, where that type is an enum
abbrev pub field_enum : SetTypes → FieldInfo → Option ℕ
field_enum types f = if has_type 14 f then enum_named types f.type_name else None

-- a message, where it is the entry of a map
abbrev pub entry_if : DeclaredMessage → Option DeclaredMessage
entry_if m = if m.is_map_entry then Some m else None

-- the message of a field, where there is one
abbrev pub message_of_field : SetTypes → FieldInfo → Option DeclaredMessage
message_of_field types f = option_and_then (slice_get types.messages) (field_message types f)

-- the entry of a map: a map is a repeated field whose type is a message with the option map_entry
abbrev pub map_entry : SetTypes → FieldInfo → Option DeclaredMessage
map_entry types f = if is_repeated f then option_and_then entry_if (message_of_field types f) else None

-- the first field of a number
abbrev pub field_numbered : ℤ → List FieldInfo → Option FieldInfo
field_numbered n [] = None
field_numbered n (f ∷ fs) = if int_eq f.number n then Some f else field_numbered n fs

-- the second field of an entry
abbrev pub entry_value : DeclaredMessage → Option FieldInfo
entry_value m = field_numbered (pos 2) m.fields

-- the field whose type one value of a field has: of a map its entry's second, else the field itself
abbrev pub value_field : SetTypes → FieldInfo → FieldInfo
value_field types f = unwrap_or (option_and_then entry_value (map_entry types f)) f
