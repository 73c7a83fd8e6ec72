-- The well-known types (timestamp.proto, duration.proto, field_mask.proto, wrappers.proto) and the fields that
-- they are published with.
use Rattle.std.specs.Prelude.{◌&&◌, ◌==◌, ℕ, pos, Bool, true, false, List, length, codes, not, Option, Some, None, is_some, if◌then◌else◌}
use Rattle.std.specs.List.{list_any}
use Rattle.std.specs.Ordering.{int_eq}
use Rattle.std.specs.Str.{bytes_eq}
use Rattle.descriptors.specs.declared.file_set.FieldInfo.{FieldInfo}
use Rattle.message_types.specs.declared.messages.Known.{Known}
use Rattle.message_types.specs.declared.messages.Known.TheVariants.{Plain, Timestamp, Duration, FieldMask, Wrapper}
use Rattle.descriptor_pool.specs.FieldTypes.{has_type, is_repeated}

-- the type number of what a wrapper wraps, by the wrapper's full name
abbrev pub wrapped_type : List ℕ → Option ℕ
wrapped_type name =
    if bytes_eq name (codes "google.protobuf.BoolValue") then Some 8
    else (if bytes_eq name (codes "google.protobuf.Int32Value") then Some 5
    else (if bytes_eq name (codes "google.protobuf.Int64Value") then Some 3
    else (if bytes_eq name (codes "google.protobuf.UInt32Value") then Some 13
    else (if bytes_eq name (codes "google.protobuf.UInt64Value") then Some 4
    else (if bytes_eq name (codes "google.protobuf.StringValue") then Some 9
    else (if bytes_eq name (codes "google.protobuf.BytesValue") then Some 12
    else None))))))

-- which well-known type has a full name
abbrev pub known_of : List ℕ → Known
known_of name =
    if bytes_eq name (codes "google.protobuf.Timestamp") then Timestamp
    else (if bytes_eq name (codes "google.protobuf.Duration") then Duration
    else (if bytes_eq name (codes "google.protobuf.FieldMask") then FieldMask
    else (if is_some (wrapped_type name) then Wrapper else Plain)))

-- a field is repeated, or is not
abbrev pub has_repetition : Bool → FieldInfo → Bool
has_repetition repeated f = if repeated then is_repeated f else not (is_repeated f)

-- a field is as it is published: of this name, number, type and repetition, and no member of a oneof
abbrev pub is_published : List ℕ → ℕ → ℕ → Bool → FieldInfo → Bool
is_published name number type_number repeated f =
    bytes_eq f.name name
    && (int_eq f.number (pos number)
    && (has_type type_number f && (has_repetition repeated f && (not (is_some f.oneof_index) && not f.proto3_optional))))

-- fields are `seconds` and `nanos`, in any order
abbrev pub are_seconds_and_nanos : List FieldInfo → Bool
are_seconds_and_nanos fs =
    (length fs == 2) && (list_any (is_published (codes "seconds") 1 3 false) fs && list_any (is_published (codes "nanos") 2 5 false) fs)

-- one field, `value`, of a type
abbrev pub is_value : Option ℕ → List FieldInfo → Bool
is_value None fs = false
is_value (Some type_number) fs = (length fs == 1) && list_any (is_published (codes "value") 1 type_number false) fs

-- the fields of a message of this full name are those with which this well-known type is published
abbrev pub are_published_of : Known → List ℕ → List FieldInfo → Bool
are_published_of Plain name fs = true
are_published_of Timestamp name fs = are_seconds_and_nanos fs
are_published_of Duration name fs = are_seconds_and_nanos fs
are_published_of FieldMask name fs = (length fs == 1) && list_any (is_published (codes "paths") 1 9 true) fs
are_published_of Wrapper name fs = is_value (wrapped_type name) fs

-- the fields of a message are those with which a well-known type of its full name is published
abbrev pub are_published : List ℕ → List FieldInfo → Bool
are_published name fs = are_published_of (known_of name) name fs
