-- The fields that are read of descriptor.proto and of google/api/http.proto, as message types. Names play no part
-- on the wire and are empty. An enum of these files is a number of 32 bits, as on the wire.
use Rattle.std.specs.Prelude.{ℕ, false, List, [], ◌∷◌, map}
use Rattle.descriptor_set.specs.declared.described.Described.{Described}
use Rattle.descriptor_set.specs.declared.described.Described.TheVariants as in_
use Rattle.descriptor_set.specs.declared.described.Holds.{Holds}
use Rattle.descriptor_set.specs.declared.described.Holds.TheVariants.{Text, Number, Truth, Path, CustomPath, Message, Messages}
use Rattle.message_types.specs.declared.fields.Field.{Field}
use Rattle.message_types.specs.declared.fields.Kind.{Kind}
use Rattle.message_types.specs.declared.fields.Kind.TheVariants.{One as OneOf, Message as MessageOf}
use Rattle.message_types.specs.declared.fields.Presence.{Presence}
use Rattle.message_types.specs.declared.fields.Presence.TheVariants.{Implicit, Explicit}
use Rattle.message_types.specs.declared.fields.Scalar.TheVariants.{Int32, Bool as BoolOf, Text as TextOf}
use Rattle.message_types.specs.declared.fields.Shape.{Shape}
use Rattle.message_types.specs.declared.fields.Shape.TheVariants.{Single, Member, Many}
use Rattle.message_types.specs.declared.messages.Known.TheVariants.{Plain}
use Rattle.message_types.specs.declared.messages.MessageType.{MessageType}
use Rattle.message_types.specs.declared.messages.TypeId.{TypeId}
use Rattle.message_types.specs.declared.messages.Types.{Types}

-- the fields of a message that are read: each number with what it holds
abbrev pub listed_fields : Described → List (ℕ × Holds)
-- file 1
listed_fields in_.Set = (1, Messages in_.File) ∷ []
-- name 1, package 2, message_type 4, enum_type 5, service 6, extension 7, syntax 12, edition 14
listed_fields in_.File = (1, Text) ∷ (2, Text) ∷ (4, Messages in_.Message) ∷ (5, Messages in_.Enum) ∷ (6, Messages in_.Service) ∷ (7, Messages in_.Field) ∷ (12, Text) ∷ (14, Number) ∷ []
-- name 1, field 2, nested_type 3, enum_type 4, extension 6, options 7, oneof_decl 8
listed_fields in_.Message = (1, Text) ∷ (2, Messages in_.Field) ∷ (3, Messages in_.Message) ∷ (4, Messages in_.Enum) ∷ (6, Messages in_.Field) ∷ (7, Message in_.MessageOptions) ∷ (8, Messages in_.Oneof) ∷ []
-- message_set_wire_format 1, map_entry 7
listed_fields in_.MessageOptions = (1, Truth) ∷ (7, Truth) ∷ []
-- name 1, extendee 2, number 3, label 4, type 5, type_name 6, options 8, oneof_index 9, json_name 10,
-- proto3_optional 17
listed_fields in_.Field = (1, Text) ∷ (2, Text) ∷ (3, Number) ∷ (4, Number) ∷ (5, Number) ∷ (6, Text) ∷ (8, Message in_.FieldOptions) ∷ (9, Number) ∷ (10, Text) ∷ (17, Truth) ∷ []
-- packed 2
listed_fields in_.FieldOptions = (2, Truth) ∷ []
-- name 1
listed_fields in_.Oneof = (1, Text) ∷ []
-- name 1, value 2
listed_fields in_.Enum = (1, Text) ∷ (2, Messages in_.EnumValue) ∷ []
-- name 1, number 2
listed_fields in_.EnumValue = (1, Text) ∷ (2, Number) ∷ []
-- name 1, method 2
listed_fields in_.Service = (1, Text) ∷ (2, Messages in_.Method) ∷ []
-- name 1, input_type 2, output_type 3, options 4, client_streaming 5, server_streaming 6
listed_fields in_.Method = (1, Text) ∷ (2, Text) ∷ (3, Text) ∷ (4, Message in_.MethodOptions) ∷ (5, Truth) ∷ (6, Truth) ∷ []
-- google.api.http 72295728
listed_fields in_.MethodOptions = (72295728, Message in_.Rule) ∷ []
-- get 2, put 3, post 4, delete 5, patch 6, body 7, custom 8, additional_bindings 11, response_body 12; the oneof
-- pattern has get, put, post, delete, patch and custom
listed_fields in_.Rule = (2, Path) ∷ (3, Path) ∷ (4, Path) ∷ (5, Path) ∷ (6, Path) ∷ (7, Text) ∷ (8, CustomPath) ∷ (11, Messages in_.Rule) ∷ (12, Text) ∷ []
-- kind 1, path 2
listed_fields in_.CustomPattern = (1, Text) ∷ (2, Text) ∷ []

-- all messages, in the order of their types
abbrev pub all_described : List Described
all_described = in_.Set ∷ in_.File ∷ in_.Message ∷ in_.MessageOptions ∷ in_.Field ∷ in_.FieldOptions ∷ in_.Oneof ∷ in_.Enum ∷ in_.EnumValue ∷ in_.Service ∷ in_.Method ∷ in_.MethodOptions ∷ in_.Rule ∷ in_.CustomPattern ∷ []

-- the type of a message: its index among them
abbrev pub type_of : Described → TypeId
type_of in_.Set = record { 0 = 0 }
type_of in_.File = record { 0 = 1 }
type_of in_.Message = record { 0 = 2 }
type_of in_.MessageOptions = record { 0 = 3 }
type_of in_.Field = record { 0 = 4 }
type_of in_.FieldOptions = record { 0 = 5 }
type_of in_.Oneof = record { 0 = 6 }
type_of in_.Enum = record { 0 = 7 }
type_of in_.EnumValue = record { 0 = 8 }
type_of in_.Service = record { 0 = 9 }
type_of in_.Method = record { 0 = 10 }
type_of in_.MethodOptions = record { 0 = 11 }
type_of in_.Rule = record { 0 = 12 }
type_of in_.CustomPattern = record { 0 = 13 }

-- what one value is
abbrev pub kind_of : Holds → Kind
kind_of Text = OneOf TextOf
kind_of Number = OneOf Int32
kind_of Truth = OneOf BoolOf
kind_of Path = OneOf TextOf
kind_of CustomPath = MessageOf (type_of in_.CustomPattern)
kind_of (Message described) = MessageOf (type_of described)
kind_of (Messages described) = MessageOf (type_of described)

-- how many there are: the patterns of a rule are members of its one oneof
abbrev pub shape_of : Holds → Shape
shape_of Path = Member 0
shape_of CustomPath = Member 0
shape_of (Messages described) = Many
shape_of _ = Single

-- absence is told but of a repeated field
abbrev pub presence_of : Holds → Presence
presence_of (Messages described) = Implicit
presence_of _ = Explicit

-- a listed field
abbrev pub field_of : ℕ × Holds → Field
field_of f = record { name = []; json = []; number = f.0; kind = kind_of f.1; shape = shape_of f.1; presence = presence_of f.1; packed = false }

-- the type of a message
abbrev pub message_type : Described → MessageType
message_type described = record { name = []; known = Plain; fields = map field_of (listed_fields described) }

-- the types of all messages
abbrev pub descriptor_types : Types
descriptor_types = record { messages = map message_type all_described; enums = [] }
