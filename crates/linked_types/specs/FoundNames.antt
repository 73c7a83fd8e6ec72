-- Ids find names (descriptor.proto, FieldDescriptorProto.type_name, MethodDescriptorProto.input_type): a type name is
-- a dot and then a full name, and the linked type of its id has that full name.
use Rattle.std.specs.Prelude.{◌≡◌, ◌<◌, ℕ, pos, true, List, length, Some, IsSome, slice_get}
use Rattle.descriptors.specs.declared.file_set.FieldInfo.{FieldInfo}
use Rattle.message_types.specs.declared.enums.EnumId.{EnumId}
use Rattle.message_types.specs.declared.enums.EnumType.{EnumType}
use Rattle.message_types.specs.declared.fields.Field.{Field}
use Rattle.message_types.specs.declared.fields.Kind.{Kind}
use Rattle.message_types.specs.declared.fields.Kind.TheVariants.{One as OneOf, Message as MessageOf}
use Rattle.message_types.specs.declared.fields.Scalar.TheVariants.{Enumeration}
use Rattle.message_types.specs.declared.messages.MessageType.{MessageType}
use Rattle.message_types.specs.declared.messages.TypeId.{TypeId}
use Rattle.message_types.specs.declared.messages.Types.{Types}
use Rattle.descriptor_pool.specs.DeclaredNames.{DeclaredEnum, DeclaredMessage}
use Rattle.descriptor_pool.specs.DeclaredTypes.{SetTypes, bare, message_named}
use Rattle.descriptor_pool.specs.FieldTypes.{has_type, value_field}
use Rattle.descriptor_pool.specs.ReachableTypes.{Joined, reached_enums}
use Rattle.descriptor_pool.specs.SetMethods.{BoundMethod}
use Rattle.linked_types.specs.LinkedTypes.{message_id}

-- the message type of an id has the full name that a type name names
pub record FindsMessage (t : Types) (type_name : List ℕ) (id : TypeId) : Type 0 where
  pub message : MessageType
  pub message_is : slice_get t.messages id.0 ≡ Some message
  pub named : bare type_name ≡ Some message.name

-- the enum type of an id has the full name that a type name names
pub record FindsEnum (t : Types) (type_name : List ℕ) (id : EnumId) : Type 0 where
  pub enum : EnumType
  pub enum_is : slice_get t.enums id.0 ≡ Some enum
  pub named : bare type_name ≡ Some enum.name

-- a kind is the message that a type name names
pub record IsMessageNamed (t : Types) (type_name : List ℕ) (kind : Kind) : Type 0 where
  pub id : TypeId
  pub kind_is : kind ≡ MessageOf id
  pub finds : FindsMessage t type_name id

-- a kind is the enum that a type name names
pub record IsEnumNamed (t : Types) (type_name : List ℕ) (kind : Kind) : Type 0 where
  pub id : EnumId
  pub kind_is : kind ≡ OneOf (Enumeration id)
  pub finds : FindsEnum t type_name id

-- the kind of a field, where `v` has its type: a message type (11) and an enum type (14) are those that are named
pub record FindsName (t : Types) (v : FieldInfo) (kind : Kind) : Type 0 where
  pub message : has_type 11 v ≡ true → IsMessageNamed t v.type_name kind
  pub enum : has_type 14 v ≡ true → IsEnumNamed t v.type_name kind

-- the linked field at an index has the name and number of a declaration, and finds the name of its type
pub record HasFieldAt (types : SetTypes) (t : Types) (f : FieldInfo) (fields : List Field) (i : ℕ) : Type 0 where
  pub field : Field
  pub field_is : slice_get fields i ≡ Some field
  pub name : field.name ≡ f.name
  pub number : f.number ≡ pos field.number
  pub type_name : FindsName t (value_field types f) field.kind

-- the linked message at an index has the name of a declaration, and its fields at their indexes
pub record HasMessageAt (types : SetTypes) (t : Types) (m : DeclaredMessage) (k : ℕ) : Type 0 where
  pub message : MessageType
  pub message_is : slice_get t.messages k ≡ Some message
  pub name : message.name ≡ m.name
  pub count : length message.fields ≡ length m.fields
  pub fields : (i : ℕ) (f : FieldInfo) → slice_get m.fields i ≡ Some f → HasFieldAt types t f message.fields i

-- the linked enum at an index has the name and the values of a declaration
pub record HasEnumAt (t : Types) (e : DeclaredEnum) (k : ℕ) : Type 0 where
  pub enum : EnumType
  pub enum_is : slice_get t.enums k ≡ Some enum
  pub name : enum.name ≡ e.name
  pub values : enum.values ≡ e.values

-- ids find names: the message at each index is linked at it, and so are the enums, and no others; and the message type
-- of a type name's id has the full name that it names
pub record IdsFindNames (types : SetTypes) (js : List Joined) (t : Types) : Type 0 where
  pub messages : (k : ℕ) (j : Joined) (m : DeclaredMessage) → slice_get js k ≡ Some j
      → slice_get types.messages j.message ≡ Some m → HasMessageAt types t m k
  pub message_count : length t.messages ≡ length js
  pub enums : (k i : ℕ) (e : DeclaredEnum) → slice_get (reached_enums types js) k ≡ Some i
      → slice_get types.enums i ≡ Some e → HasEnumAt t e k
  pub enum_count : length t.enums ≡ length (reached_enums types js)
  pub ids : (type_name : List ℕ) (id : TypeId) → message_id types js type_name ≡ Some id → FindsMessage t type_name id

-- a type name has an id, which is in range of the linked messages
pub record HasIdIn (types : SetTypes) (js : List Joined) (t : Types) (type_name : List ℕ) : Type 0 where
  pub id : TypeId
  pub id_is : message_id types js type_name ≡ Some id
  pub within : id.0 < length t.messages

-- the input and the output of a method have ids, where they name messages of the set
pub record HasIds (types : SetTypes) (js : List Joined) (t : Types) (m : BoundMethod) : Type 0 where
  pub input : IsSome (message_named types m.input) → HasIdIn types js t m.input
  pub output : IsSome (message_named types m.output) → HasIdIn types js t m.output
