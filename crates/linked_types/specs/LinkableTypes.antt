-- What the types of a set must be, so that they are linked and what is linked of them is sound: in the words of what
-- is declared.
use Rattle.std.specs.Prelude.{◌≡◌, ◌≤◌, ◌||◌, ℕ, ℤ, pos, Bool, true, false, List, map, Option, Some, slice_get}
use Rattle.std.specs.List.{AllByRecursion}
use Rattle.std.specs.Ordering.{int_eq}
use Rattle.std.specs.Str.{bytes_eq}
use Rattle.descriptors.specs.declared.file_set.FieldInfo.{FieldInfo}
use Rattle.descriptor_pool.specs.DeclaredNames.{DeclaredEnum, DeclaredMessage}
use Rattle.descriptor_pool.specs.DeclaredTypes.{SetTypes, enum_named, message_named}
use Rattle.descriptor_pool.specs.FieldTypes.{entry_value, has_type, map_entry, value_field}
use Rattle.descriptor_pool.specs.JsonFieldNames.{json_of}
use Rattle.descriptor_pool.specs.ReachableTypes.{Joined}
use Rattle.descriptor_pool.specs.WellKnownTypes.{are_published}
use Rattle.linked_types.specs.LinkedTypes.{is_proto3, key_scalar, linked_enum}
use Rattle.message_types.specs.declared.fields.Scalar.{Scalar}
use Rattle.schema.specs.Apart.{AreApart}
use Rattle.schema.specs.Soundness.{IsKeyKind, IsSoundEnum}

-- a number that a field can have
pub record IsFieldNumber (z : ℤ) : Type 0 where
  pub number : ℕ
  pub is : z ≡ pos number
  pub low : 1 ≤ number
  pub high : number ≤ 536870911

-- the number of a type (descriptor.proto, FieldDescriptorProto.Type)
pub record IsTypeNumber (z : ℤ) : Type 0 where
  pub number : ℕ
  pub is : z ≡ pos number
  pub low : 1 ≤ number
  pub high : number ≤ 18

-- an enum of the set stands at an index, and has a value, and no name twice
pub record IsSoundAt (types : SetTypes) (i : ℕ) : Type 0 where
  pub enum : DeclaredEnum
  pub enum_is : slice_get types.enums i ≡ Some enum
  pub sound : IsSoundEnum (linked_enum enum)

-- an index is that of such an enum
pub record HasSoundEnum (types : SetTypes) (o : Option ℕ) : Type 0 where
  pub index : ℕ
  pub index_is : o ≡ Some index
  pub sound : IsSoundAt types index

-- the type of a field is one of the list, and no group and no floating-point number; the message or the enum that it
-- is is of the set
pub record IsLinkableType (types : SetTypes) (v : FieldInfo) : Type 0 where
  pub type_number : IsTypeNumber v.type_number
  pub group : has_type 10 v ≡ false
  pub double : has_type 1 v ≡ false
  pub float : has_type 2 v ≡ false
  pub message : has_type 11 v ≡ true → (i : ℕ) × (message_named types v.type_name ≡ Some i)
  pub enum : has_type 14 v ≡ true → HasSoundEnum types (enum_named types v.type_name)

-- the entry of a map has a key, of a type that keys can have, and a value
pub record IsLinkableEntry (entry : DeclaredMessage) : Type 0 where
  pub scalar : Scalar
  pub key_is : key_scalar entry ≡ Some scalar
  pub kind : IsKeyKind scalar
  pub value : FieldInfo
  pub value_is : entry_value entry ≡ Some value

-- a field has a number that fields can have, a lawful entry, if it is a map, and values of a type that is linked
pub record IsLinkableField (types : SetTypes) (f : FieldInfo) : Type 0 where
  pub number : IsFieldNumber f.number
  pub entry : (entry : DeclaredMessage) → map_entry types f ≡ Some entry → IsLinkableEntry entry
  pub value : IsLinkableType types (value_field types f)

-- one name, or JSON name, is that of both fields
abbrev pub share_name : FieldInfo → FieldInfo → Bool
share_name f g =
    bytes_eq f.name g.name || bytes_eq f.name (json_of g)
    || bytes_eq (json_of f) g.name || bytes_eq (json_of f) (json_of g)

-- a message is of a file of proto3, each of its fields is so, no two have one number or share a name, and a
-- well-known type has the fields with which it is published
pub record IsLinkableMessage (types : SetTypes) (m : DeclaredMessage) : Type 0 where
  pub syntax : is_proto3 m.syntax ≡ true
  pub fields : AllByRecursion (IsLinkableField types) m.fields
  pub numbers : AreApart int_eq (map (λ (f : FieldInfo). f.number) m.fields)
  pub names : AreApart share_name m.fields
  pub known : are_published m.name m.fields ≡ true

-- the message of an item is so
abbrev pub IsLinkableItem : SetTypes → Joined → Type 0
IsLinkableItem types j = (m : DeclaredMessage) → slice_get types.messages j.message ≡ Some m → IsLinkableMessage types m

-- the message of each item of a queue is so
abbrev pub AreLinkable : SetTypes → List Joined → Type 0
AreLinkable types js = AllByRecursion (IsLinkableItem types) js
