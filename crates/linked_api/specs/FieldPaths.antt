-- Paths of fields (google/api/http.proto, FieldPath): which fields a variable's path names, and where it may end.
use Rattle.std.specs.Prelude.{◌≡◌, ℕ, Bool, true, false, List, [], ◌∷◌, Option, Some, None, if◌then◌else◌, not, option_and_then, option_map, slice_get}
use Rattle.std.specs.Option.{option_map_or}
use Rattle.std.specs.Str.{bytes_eq}
use Rattle.message_types.specs.Types.{field_of, fields_of}
use Rattle.message_types.specs.declared.fields.Field.{Field}
use Rattle.message_types.specs.declared.fields.Kind.{Kind}
use Rattle.message_types.specs.declared.fields.Kind.TheVariants.{One, Message}
use Rattle.message_types.specs.declared.fields.Shape.{Shape}
use Rattle.message_types.specs.declared.fields.Shape.TheVariants.{Single, Member, Many, Map}
use Rattle.message_types.specs.declared.messages.Known.{Known}
use Rattle.message_types.specs.declared.messages.Known.TheVariants.{Plain, Timestamp, Duration, FieldMask, Wrapper}
use Rattle.message_types.specs.declared.messages.MessageType.{MessageType}
use Rattle.message_types.specs.declared.messages.TypeId.{TypeId}
use Rattle.message_types.specs.declared.messages.Types.{Types}

-- the first field of a name
abbrev pub field_named : List Field → List ℕ → Option Field
field_named [] name = None
field_named (f ∷ fs) name = if bytes_eq f.name name then Some f else field_named fs name

-- a field has one value: it stands alone, or is a member of a oneof
abbrev pub IsSingular : Shape → Type 0
IsSingular Single = Unit {0}
IsSingular (Member k) = Unit {0}
IsSingular Many = ⊥
IsSingular (Map k) = ⊥

-- a message type that is no well-known one has this id
pub record IsPlainMessage (types : Types) (id : TypeId) : Type 0 where
  pub message : MessageType
  pub message_is : slice_get types.messages id.0 ≡ Some message
  pub plain : message.known ≡ Plain

-- a well-known message type has this id
pub record IsWellKnown (types : Types) (id : TypeId) : Type 0 where
  pub message : MessageType
  pub message_is : slice_get types.messages id.0 ≡ Some message
  pub known : message.known ≡ Plain → ⊥

-- one value of this kind is a leaf: a scalar, an enum, or a well-known type
abbrev pub IsLeaf : Types → Kind → Type 0
IsLeaf types (One s) = Unit {0}
IsLeaf types (Message id) = IsWellKnown types id

-- one value of this kind is a plain message of this type
abbrev pub LeadsInto : Types → Kind → TypeId → Type 0
LeadsInto types (One s) id = ⊥
LeadsInto types (Message k) id = (k ≡ id) × IsPlainMessage types id

-- a name is that of a singular field of a type, and this is its number: the field is found by both
pub record IsStep (types : Types) (id : TypeId) (name : List ℕ) (number : ℕ) : Type 0 where
  pub field : Field
  pub by_name : field_named (fields_of types id) name ≡ Some field
  pub by_number : field_of types id number ≡ Some field
  pub singular : IsSingular field.shape

-- these are the numbers of the fields of a path that begins at a type: it passes through singular fields of plain
-- messages alone, and ends at a singular leaf
abbrev pub LeadsToLeaf : Types → TypeId → List (List ℕ) → List ℕ → Type 0
LeadsToLeaf types id [] numbers = ⊥
LeadsToLeaf types id (name ∷ names) [] = ⊥
LeadsToLeaf types id (name ∷ []) (n ∷ []) = (step : IsStep types id name n) × IsLeaf types step.field.kind
LeadsToLeaf types id (name ∷ []) (n ∷ m ∷ numbers) = ⊥
LeadsToLeaf types id (name ∷ next ∷ names) (n ∷ numbers) =
    (step : IsStep types id name n) × (inner : TypeId) × LeadsInto types step.field.kind inner
    × LeadsToLeaf types inner (next ∷ names) numbers

-- a shape of one value
abbrev pub is_singular : Shape → Bool
is_singular Single = true
is_singular (Member k) = true
is_singular Many = false
is_singular (Map k) = false

-- a message type is no well-known one
abbrev pub is_plain : Known → Bool
is_plain Plain = true
is_plain Timestamp = false
is_plain Duration = false
is_plain FieldMask = false
is_plain Wrapper = false

-- the message type of an id is there, and is no well-known one
abbrev pub is_plain_message : Types → TypeId → Bool
is_plain_message types id = option_map_or (λ (m : MessageType). is_plain m.known) (slice_get types.messages id.0) false

-- the message type of an id is there, and is a well-known one
abbrev pub is_well_known : Types → TypeId → Bool
is_well_known types id =
    option_map_or (λ (m : MessageType). not (is_plain m.known)) (slice_get types.messages id.0) false

-- one value of this kind is a leaf
abbrev pub is_leaf : Types → Kind → Bool
is_leaf types (One s) = true
is_leaf types (Message id) = is_well_known types id

-- the plain message that one value of this kind is
abbrev pub inner_message : Types → Kind → Option TypeId
inner_message types (One s) = None
inner_message types (Message id) = if is_plain_message types id then Some id else None

-- a field, where it is singular
abbrev pub if_singular : Field → Option Field
if_singular f = if is_singular f.shape then Some f else None

-- the singular field of a name
abbrev pub singular_named : Types → TypeId → List ℕ → Option Field
singular_named types id name = option_and_then if_singular (field_named (fields_of types id) name)

-- the number of a field that is a leaf
abbrev pub leaf_number : Types → Field → Option ℕ
leaf_number types f = if is_leaf types f.kind then Some f.number else None

-- the number of the leaf of a name
abbrev pub leaf_named : Types → TypeId → List ℕ → Option ℕ
leaf_named types id name = option_and_then (leaf_number types) (singular_named types id name)

-- the number of a field, and the plain message that it leads into
abbrev pub numbered_inner : Types → Field → Option (ℕ × TypeId)
numbered_inner types f = option_map (λ (inner : TypeId). (f.number, inner)) (inner_message types f.kind)

-- the number of the field of a name, and the plain message that it leads into
abbrev pub inner_named : Types → TypeId → List ℕ → Option (ℕ × TypeId)
inner_named types id name = option_and_then (numbered_inner types) (singular_named types id name)

-- the numbers of the fields of a path that begins at a type, if it leads to a leaf
abbrev pub path_numbers : Types → TypeId → List (List ℕ) → Option (List ℕ)
path_numbers types id [] = None
path_numbers types id (name ∷ []) = option_map (λ n. n ∷ []) (leaf_named types id name)
path_numbers types id (name ∷ next ∷ names) =
    option_and_then (λ (s : ℕ × TypeId). option_map (λ ns. s.0 ∷ ns) (path_numbers types s.1 (next ∷ names)))
    (inner_named types id name)
