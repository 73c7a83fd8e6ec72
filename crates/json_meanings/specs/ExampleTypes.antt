-- The types of the worked examples: books, with a field of each kind and shape, and priced things, with well-known
-- types.
use Rattle.std.specs.Prelude.{ℕ, zero, suc, pos, false, List, [], ◌∷◌, codes, Ok, Err, Result, if◌then◌else◌}
use Rattle.std.specs.Str.{bytes_eq}
use Rattle.message_types.specs.declared.fields.Field.{Field}
use Rattle.message_types.specs.declared.fields.Kind.{Kind}
use Rattle.message_types.specs.declared.fields.Kind.TheVariants.{One as OneOf, Message as MessageOf}
use Rattle.message_types.specs.declared.fields.Presence.{Presence}
use Rattle.message_types.specs.declared.fields.Presence.TheVariants.{Implicit, Explicit}
use Rattle.message_types.specs.declared.fields.Scalar.{Scalar}
use Rattle.message_types.specs.declared.fields.Scalar.TheVariants.{Int32, Int64, Uint32, Uint64, Sint32, Fixed64, Bool as BoolOf, Text as TextOf, Bytes as BytesOf, Enumeration}
use Rattle.message_types.specs.declared.fields.Shape.{Shape}
use Rattle.message_types.specs.declared.fields.Shape.TheVariants.{Single, Member, Many as ManyOf, Map as MapOf}
use Rattle.message_types.specs.declared.messages.Known.{Known}
use Rattle.message_types.specs.declared.messages.Known.TheVariants.{Plain, Timestamp, Duration, FieldMask, Wrapper}
use Rattle.message_types.specs.declared.messages.MessageType.{MessageType}
use Rattle.message_types.specs.declared.messages.TypeId.{TypeId}
use Rattle.message_types.specs.declared.messages.Types.{Types}
use Rattle.schema.specs.Layers.{ItemLayer}
use Rattle.schema.specs.declared.value.Item.TheOpen.{One, Message}
use Rattle.schema.specs.declared.value.Item.{roll-Item}
use Rattle.schema.specs.declared.value.Slot.{roll-Slot, Slot}
use Rattle.schema.specs.declared.value.Value.{Value}
use Rattle.json_events.specs.JsonTree.{Json, object, no_pairs, pair}
use Rattle.json_meanings.specs.FaultPlaces.{Fault}
use Rattle.json_meanings.specs.JsonScalars.{Schema}
use Rattle.json_meanings.specs.declared.fault.FieldKind.{FieldKind}
use Rattle.json_meanings.specs.declared.fault.FieldKind.TheVariants.{BadText, OutOfRange}

-- a message type by its place
abbrev pub type_at : ℕ → TypeId
type_at n = record { 0 = n }

-- a field of a name and a JSON name
abbrev pub field_with : List ℕ → List ℕ → ℕ → Kind → Shape → Presence → Field
field_with name json number kind shape presence = record {
  name = name;
  json = json;
  number = number;
  kind = kind;
  shape = shape;
  presence = presence;
  packed = false;
}

-- a field whose JSON name is its name
abbrev pub field_as_named : List ℕ → ℕ → Kind → Shape → Presence → Field
field_as_named name number kind shape presence = field_with name name number kind shape presence

-- a field of a scalar kind whose default is not stored
abbrev pub scalar_field : List ℕ → ℕ → Scalar → Field
scalar_field name number s = field_as_named name number (OneOf s) Single Implicit

-- the kinds of books
abbrev pub kind_of_book : Scalar
kind_of_book = Enumeration (record { 0 = 0 })

-- the fields of a book
abbrev pub book_fields : List Field
book_fields =
    scalar_field (codes "title") 2 TextOf
    ∷ field_with (codes "page_count") (codes "pageCount") 3 (OneOf Int32) Single Implicit
    ∷ field_as_named (codes "marks") 4 (OneOf Int64) ManyOf Implicit
    ∷ scalar_field (codes "kind") 5 kind_of_book
    ∷ scalar_field (codes "lent") 6 BoolOf
    ∷ scalar_field (codes "cover") 7 BytesOf
    ∷ field_as_named (codes "weight") 8 (OneOf Fixed64) Single Explicit
    ∷ field_as_named (codes "stock") 9 (OneOf Int32) (MapOf TextOf) Implicit
    ∷ field_as_named (codes "person") 10 (OneOf TextOf) (Member 0) Explicit
    ∷ field_as_named (codes "card") 11 (OneOf Int64) (Member 0) Explicit
    ∷ field_as_named (codes "prior") 12 (MessageOf (type_at 0)) (Member 0) Explicit
    ∷ scalar_field (codes "copies") 13 Uint32
    ∷ field_as_named (codes "sequel") 14 (MessageOf (type_at 0)) Single Explicit
    ∷ field_as_named (codes "signed") 15 (OneOf Sint32) (MapOf BoolOf) Implicit
    ∷ field_as_named (codes "volumes") 16 (MessageOf (type_at 0)) ManyOf Implicit
    ∷ field_as_named (codes "parts") 17 (MessageOf (type_at 0)) (MapOf Uint64) Implicit
    ∷ field_as_named (codes "shelf") 18 (OneOf TextOf) (Member 1) Explicit
    ∷ []

-- books, and their kinds
abbrev pub book_types : Types
book_types = record {
  messages = record { name = codes "lib.Book"; known = Plain; fields = book_fields } ∷ [];
  enums = record {
    name = codes "lib.Kind";
    values =
        record { name = codes "NONE"; number = pos 0 }
        ∷ record { name = codes "NOVEL"; number = pos 1 }
        ∷ record { name = codes "7"; number = pos 3 }
        ∷ [];
  } ∷ [];
}

-- books, without well-known types
abbrev pub books : Schema
books = record { types = book_types; known = λ k t. Err BadText }

-- the type of books
abbrev pub book : TypeId
book = type_at 0

-- the fields of a priced thing
abbrev pub priced_fields : List Field
priced_fields =
    field_as_named (codes "price") 1 (MessageOf (type_at 1)) Single Explicit
    ∷ field_as_named (codes "made") 2 (MessageOf (type_at 2)) Single Explicit
    ∷ field_as_named (codes "times") 3 (MessageOf (type_at 2)) (MapOf Int32) Implicit
    ∷ field_as_named (codes "lasts") 4 (MessageOf (type_at 3)) Single Explicit
    ∷ field_as_named (codes "mask") 5 (MessageOf (type_at 4)) Single Explicit
    ∷ field_as_named (codes "prices") 6 (MessageOf (type_at 1)) ManyOf Implicit
    ∷ field_as_named (codes "within") 7 (MessageOf (type_at 0)) Single Explicit
    ∷ []

-- a message type that is a well-known one, or plain
abbrev pub type_with : List ℕ → Known → List Field → MessageType
type_with name known fields = record { name = name; known = known; fields = fields }

-- priced things, with the well-known types that they need, whose fields matter for a wrapper alone
abbrev pub priced_types : Types
priced_types = record {
  messages =
      type_with (codes "lib.Priced") Plain priced_fields
      ∷ type_with (codes "google.protobuf.Int64Value") Wrapper (scalar_field (codes "value") 1 Int64 ∷ [])
      ∷ type_with (codes "google.protobuf.Timestamp") Timestamp []
      ∷ type_with (codes "google.protobuf.Duration") Duration []
      ∷ type_with (codes "google.protobuf.FieldMask") FieldMask []
      ∷ [];
  enums = [];
}

-- a stand-in for the texts of well-known types: `t` is one, `far` one that is out of range
abbrev pub told_text : List ℕ → Result Value FieldKind
told_text t =
    if bytes_eq t (codes "t") then Ok (record { fields = [] })
    else (if bytes_eq t (codes "far") then Err OutOfRange else Err BadText)

-- priced things
abbrev pub priced : Schema
priced = record { types = priced_types; known = λ k t. told_text t }

-- the type of priced things
abbrev pub priced_thing : TypeId
priced_thing = type_at 0

-- a message with these slots is read
abbrev pub is_read : List (ℕ × Slot) → Result Value Fault
is_read slots = Ok (record { fields = slots })

-- the slot of one item
abbrev pub one_slot : ItemLayer → Slot
one_slot i = roll-Slot (One (roll-Item i))

-- a message with one item alone
abbrev pub only : ℕ → ItemLayer → Value
only n i = record { fields = (n, one_slot i) ∷ [] }

-- an object with one member
abbrev pub one_pair : List ℕ → Json → Json
one_pair t j = object (pair t j no_pairs)

-- an object with two
abbrev pub two_pairs : List ℕ → Json → List ℕ → Json → Json
two_pairs t j u k = object (pair t j (pair u k no_pairs))

-- a value inside so many books, each the sequel of the one around it
abbrev pub in_sequels : ℕ → Json → Json
in_sequels zero j = j
in_sequels (suc n) j = one_pair (codes "sequel") (in_sequels n j)

-- a message inside so many books, each the sequel of the one around it
abbrev pub book_with_sequels : ℕ → Value → Value
book_with_sequels zero v = v
book_with_sequels (suc n) v = only 14 (Message (book_with_sequels n v))

-- a value inside so many priced things
abbrev pub in_things : ℕ → Json → Json
in_things zero j = j
in_things (suc n) j = one_pair (codes "within") (in_things n j)

-- a message inside so many priced things
abbrev pub thing_around : ℕ → Value → Value
thing_around zero v = v
thing_around (suc n) v = only 7 (Message (thing_around n v))
