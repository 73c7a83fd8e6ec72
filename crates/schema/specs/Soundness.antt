-- Which types are sound: what a descriptor set that protoc accepts can declare (descriptor.proto).
use Rattle.std.specs.Prelude.{◌≡◌, ◌≢◌, ◌<◌, ◌≤◌, ◌||◌, ℕ, Bool, true, false, IsTrue, List, [], length, map, codes, nat_eq, Option, Some, None}
use Rattle.std.specs.List.{AllByRecursion}
use Rattle.std.specs.Str.{bytes_eq}
use Rattle.schema.specs.Apart.{AreApart}
use Rattle.message_types.specs.Types.{field_in}
use Rattle.message_types.specs.declared.enums.EnumType.{EnumType}
use Rattle.message_types.specs.declared.enums.EnumValue.{EnumValue}
use Rattle.message_types.specs.declared.fields.Field.{Field}
use Rattle.message_types.specs.declared.fields.Kind.{Kind}
use Rattle.message_types.specs.declared.fields.Kind.TheVariants.{One, Message}
use Rattle.message_types.specs.declared.fields.Presence.{Presence}
use Rattle.message_types.specs.declared.fields.Presence.TheVariants.{Implicit}
use Rattle.message_types.specs.declared.fields.Scalar.{Scalar}
use Rattle.message_types.specs.declared.fields.Scalar.TheVariants.{Int32, Int64, Uint32, Uint64, Bool as BoolOf, Text as TextOf, Bytes as BytesOf, Enumeration}
use Rattle.message_types.specs.declared.fields.Shape.{Shape}
use Rattle.message_types.specs.declared.fields.Shape.TheVariants.{Single, Member, Many, Map}
use Rattle.message_types.specs.declared.messages.Known.{Known}
use Rattle.message_types.specs.declared.messages.Known.TheVariants.{Plain, Timestamp, Duration, FieldMask, Wrapper}
use Rattle.message_types.specs.declared.messages.MessageType.{MessageType}
use Rattle.message_types.specs.declared.messages.Types.{Types}

-- an enum that is named is declared
abbrev pub IsScalarIn : Types → Scalar → Type 0
IsScalarIn types (Enumeration id) = id.0 < length types.enums
IsScalarIn types _ = Unit {0}

-- a type that is named is declared
abbrev pub IsKindIn : Types → Kind → Type 0
IsKindIn types (One s) = IsScalarIn types s
IsKindIn types (Message id) = id.0 < length types.messages

-- a map's key is an integer of any form, a bool or a string
abbrev pub IsKeyKind : Scalar → Type 0
IsKeyKind (Enumeration id) = ⊥
IsKeyKind BytesOf = ⊥
IsKeyKind _ = Unit {0}

-- a list of this scalar kind can be packed: all but strings and bytes
abbrev pub is_packable : Scalar → Bool
is_packable TextOf = false
is_packable BytesOf = false
is_packable _ = true

-- a list of this kind can be packed
abbrev pub IsPackable : Kind → Type 0
IsPackable (One s) = IsTrue (is_packable s)
IsPackable (Message id) = ⊥

-- what the shape of a field asks of its presence, and of a map the kind of its keys
abbrev pub FitsShape : Shape → Kind → Presence → Type 0
FitsShape Single (Message id) p = p ≢ Implicit
FitsShape Single (One s) p = Unit {0}
FitsShape (Member k) kind p = p ≢ Implicit
FitsShape Many kind p = p ≡ Implicit
FitsShape (Map s) kind p = (p ≡ Implicit) × IsKeyKind s

-- a field that is declared packed is a list that can be
abbrev pub FitsPacked : Field → Type 0
FitsPacked f = f.packed ≡ true → (f.shape ≡ Many) × IsPackable f.kind

-- one field of a message
pub record IsSoundField (types : Types) (f : Field) : Type 0 where
  pub low : 1 ≤ f.number
  pub high : f.number ≤ 536870911
  pub kind : IsKindIn types f.kind
  pub shape : FitsShape f.shape f.kind f.presence
  pub packed : FitsPacked f

-- one key, a name or a JSON name, is that of both fields
abbrev pub share_key : Field → Field → Bool
share_key f g = bytes_eq f.name g.name || bytes_eq f.name g.json || bytes_eq f.json g.name || bytes_eq f.json g.json

-- no field of a list has this number
abbrev pub IsFreeNumber : ℕ → List Field → Type 0
IsFreeNumber n fs = AllByRecursion (λ m. nat_eq n m ≡ false) (map (λ f. f.number) fs)

-- no field of a list shares a key with this one
abbrev pub IsFreeKey : Field → List Field → Type 0
IsFreeKey f fs = AllByRecursion (λ g. share_key f g ≡ false) fs

-- no two fields have one number
abbrev pub AreNumbersApart : List Field → Type 0
AreNumbersApart fs = AreApart nat_eq (map (λ f. f.number) fs)

-- no two fields share a key
abbrev pub AreKeysApart : List Field → Type 0
AreKeysApart fs = AreApart share_key fs

-- no name of a list is this one
abbrev pub IsFreeName : List ℕ → List EnumValue → Type 0
IsFreeName name vs = AllByRecursion (λ n. bytes_eq name n ≡ false) (map (λ v. v.name) vs)

-- no two values of an enum have one name
abbrev pub AreNamesApart : List EnumValue → Type 0
AreNamesApart vs = AreApart bytes_eq (map (λ v. v.name) vs)

-- a field is implicit, of this kind and shape
abbrev pub HasKnownForm : Field → Scalar → Shape → Type 0
HasKnownForm f scalar shape = (f.kind ≡ One scalar) × (f.shape ≡ shape) × (f.presence ≡ Implicit)

-- a field of a well-known type: of this name and form
abbrev pub IsKnownField : Option Field → List ℕ → Scalar → Shape → Type 0
IsKnownField None name scalar shape = ⊥
IsKnownField (Some f) name scalar shape = (f.name ≡ name) × HasKnownForm f scalar shape

-- a scalar that has a wrapper (wrappers.proto)
abbrev pub IsWrapped : Scalar → Type 0
IsWrapped BoolOf = Unit {0}
IsWrapped Int32 = Unit {0}
IsWrapped Int64 = Unit {0}
IsWrapped Uint32 = Unit {0}
IsWrapped Uint64 = Unit {0}
IsWrapped TextOf = Unit {0}
IsWrapped BytesOf = Unit {0}
IsWrapped _ = ⊥

-- the field of a wrapper: `value`, of a scalar that has one
abbrev pub IsValueField : Option Field → Type 0
IsValueField o = (s : Scalar) × IsWrapped s × IsKnownField o (codes "value") s Single

-- the fields of a time or a duration
abbrev pub HasSecondsAndNanos : List Field → Type 0
HasSecondsAndNanos fs = (length fs ≡ 2) × IsKnownField (field_in fs 1) (codes "seconds") Int64 Single × IsKnownField (field_in fs 2) (codes "nanos") Int32 Single

-- a well-known type has exactly its fields (timestamp.proto, duration.proto, field_mask.proto, wrappers.proto)
abbrev pub HasKnownFields : Known → List Field → Type 0
HasKnownFields Plain fs = Unit {0}
HasKnownFields Timestamp fs = HasSecondsAndNanos fs
HasKnownFields Duration fs = HasSecondsAndNanos fs
HasKnownFields FieldMask fs = (length fs ≡ 1) × IsKnownField (field_in fs 1) (codes "paths") TextOf Many
HasKnownFields Wrapper fs = (length fs ≡ 1) × IsValueField (field_in fs 1)

-- one message type
pub record IsSoundMessage (types : Types) (m : MessageType) : Type 0 where
  pub fields : AllByRecursion (IsSoundField types) m.fields
  pub numbers : AreNumbersApart m.fields
  pub keys : AreKeysApart m.fields
  pub known : HasKnownFields m.known m.fields

-- one enum type: it has a value, and no name twice
pub record IsSoundEnum (e : EnumType) : Type 0 where
  pub some : e.values ≢ []
  pub names : AreNamesApart e.values

-- all types
pub record IsSound (types : Types) : Type 0 where
  pub messages : AllByRecursion (IsSoundMessage types) types.messages
  pub enums : AllByRecursion IsSoundEnum types.enums
