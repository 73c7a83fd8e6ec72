-- Worked examples of paths, computed by the definitions.
use Rattle.std.specs.Prelude.{◌≡◌, ℕ, true, false, List, [], ◌∷◌, codes, Option, Some, None}
use Rattle.linked_api.specs.FieldPaths.{path_numbers}
use Rattle.linked_api.specs.LinkedApi.{overlap}
use Rattle.linked_api.specs.NumberPaths.{last_field}
use Rattle.message_types.specs.declared.fields.Field.{Field}
use Rattle.message_types.specs.declared.fields.Kind.{Kind}
use Rattle.message_types.specs.declared.fields.Kind.TheVariants.{One, Message}
use Rattle.message_types.specs.declared.fields.Presence.{Presence}
use Rattle.message_types.specs.declared.fields.Presence.TheVariants.{Implicit, Explicit}
use Rattle.message_types.specs.declared.fields.Scalar.TheVariants.{Int32, Int64, Text}
use Rattle.message_types.specs.declared.fields.Shape.{Shape}
use Rattle.message_types.specs.declared.fields.Shape.TheVariants.{Single, Member, Many, Map}
use Rattle.message_types.specs.declared.messages.Known.TheVariants.{Plain, Timestamp, FieldMask}
use Rattle.message_types.specs.declared.messages.MessageType.{MessageType}
use Rattle.message_types.specs.declared.messages.TypeId.{TypeId}
use Rattle.message_types.specs.declared.messages.Types.{Types}

-- a field of this name, number and kind
abbrev pub field_of_kind : List ℕ → ℕ → Kind → Shape → Presence → Field
field_of_kind name number kind shape presence =
    record {
      name = name;
      json = name;
      number = number;
      kind = kind;
      shape = shape;
      presence = presence;
      packed = false;
    }

-- the message type of an index
abbrev pub type_at : ℕ → TypeId
type_at k = record { 0 = k }

-- a book: its name, title and pages, its marks, when it was made, its owner, the stock of each shop, its sequel
abbrev pub book : MessageType
book = record {
  name = codes "library.Book";
  known = Plain;
  fields =
      field_of_kind (codes "name") 1 (One Text) Single Implicit
      ∷ field_of_kind (codes "title") 2 (One Text) Single Implicit
      ∷ field_of_kind (codes "pages") 3 (One Int32) Single Implicit
      ∷ field_of_kind (codes "marks") 4 (One Int32) Many Implicit
      ∷ field_of_kind (codes "made") 5 (Message (type_at 2)) Single Explicit
      ∷ field_of_kind (codes "person") 6 (One Text) (Member 0) Explicit
      ∷ field_of_kind (codes "card") 7 (One Int32) (Member 0) Explicit
      ∷ field_of_kind (codes "stock") 8 (One Int32) (Map Text) Implicit
      ∷ field_of_kind (codes "sequel") 9 (Message (type_at 0)) Single Explicit ∷ [];
}

-- a request that changes a book
abbrev pub patch_book_request : MessageType
patch_book_request = record {
  name = codes "library.PatchBookRequest";
  known = Plain;
  fields =
      field_of_kind (codes "book") 1 (Message (type_at 0)) Single Explicit
      ∷ record (field_of_kind (codes "update_mask") 2 (Message (type_at 3)) Single Explicit) {
        json = codes "updateMask";
      } ∷ [];
}

-- google.protobuf.Timestamp
abbrev pub timestamp : MessageType
timestamp = record {
  name = codes "google.protobuf.Timestamp";
  known = Timestamp;
  fields =
      field_of_kind (codes "seconds") 1 (One Int64) Single Implicit
      ∷ field_of_kind (codes "nanos") 2 (One Int32) Single Implicit ∷ [];
}

-- google.protobuf.FieldMask
abbrev pub field_mask : MessageType
field_mask = record {
  name = codes "google.protobuf.FieldMask";
  known = FieldMask;
  fields = field_of_kind (codes "paths") 1 (One Text) Many Implicit ∷ [];
}

-- books and requests
abbrev pub library : Types
library = record { messages = book ∷ patch_book_request ∷ timestamp ∷ field_mask ∷ []; enums = [] }

-- the numbers of a path of a request
abbrev pub numbers_of : List (List ℕ) → Option (List ℕ)
numbers_of names = path_numbers library (type_at 1) names

-- where paths of a request lead
pub record PathExamplesHold : Type 0 where
  pub name : numbers_of (codes "book" ∷ codes "name" ∷ []) ≡ Some (1 ∷ 1 ∷ [])
  -- a well-known message is a leaf, and no path passes through it
  pub made : numbers_of (codes "book" ∷ codes "made" ∷ []) ≡ Some (1 ∷ 5 ∷ [])
  pub seconds : numbers_of (codes "book" ∷ codes "made" ∷ codes "seconds" ∷ []) ≡ None
  pub mask : numbers_of (codes "update_mask" ∷ []) ≡ Some (2 ∷ [])
  -- a member of a oneof is singular; a list and a map are not
  pub member : numbers_of (codes "book" ∷ codes "person" ∷ []) ≡ Some (1 ∷ 6 ∷ [])
  pub listed : numbers_of (codes "book" ∷ codes "marks" ∷ []) ≡ None
  pub mapped : numbers_of (codes "book" ∷ codes "stock" ∷ []) ≡ None
  -- any other message is no leaf, and is passed through
  pub plain : numbers_of (codes "book" ∷ []) ≡ None
  pub inner : numbers_of (codes "book" ∷ codes "sequel" ∷ codes "name" ∷ []) ≡ Some (1 ∷ 9 ∷ 1 ∷ [])
  -- a JSON name is not looked up
  pub json : numbers_of (codes "updateMask" ∷ []) ≡ None
  -- a scalar is passed through by none, and a name that is not there leads nowhere, nor does no name
  pub behind : numbers_of (codes "book" ∷ codes "name" ∷ codes "name" ∷ []) ≡ None
  pub absent : numbers_of (codes "book" ∷ codes "author" ∷ []) ≡ None
  pub none : numbers_of [] ≡ None
  -- what stands at the end of the numbers is the field
  pub last : last_field library (type_at 1) (1 ∷ 9 ∷ 3 ∷ [])
      ≡ Some (field_of_kind (codes "pages") 3 (One Int32) Single Implicit)
  -- a path overlaps itself and what it begins, either way, and no other
  pub begins : overlap (1 ∷ []) (1 ∷ 1 ∷ []) ≡ true
  pub begun : overlap (1 ∷ 1 ∷ []) (1 ∷ []) ≡ true
  pub itself : overlap (1 ∷ 1 ∷ []) (1 ∷ 1 ∷ []) ≡ true
  pub apart : overlap (1 ∷ 1 ∷ []) (1 ∷ 2 ∷ []) ≡ false
