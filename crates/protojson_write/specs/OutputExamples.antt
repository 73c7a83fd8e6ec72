-- Worked examples of the texts of values, computed by the definitions.
use Rattle.std.specs.Prelude.{◌≡◌, ℕ, pos, negsuc, List, [], ◌∷◌, false, true, codes, Option, Some, None}
use Rattle.message_types.specs.declared.fields.Field.{Field}
use Rattle.message_types.specs.declared.fields.Kind.{Kind}
use Rattle.message_types.specs.declared.fields.Kind.TheVariants.{One as OneOf, Message as MessageOf}
use Rattle.message_types.specs.declared.fields.Presence.{Presence}
use Rattle.message_types.specs.declared.fields.Presence.TheVariants.{Implicit, Explicit}
use Rattle.message_types.specs.declared.fields.Scalar.TheVariants.{Int32, Int64, Uint32, Uint64, Sint32, Sint64, Fixed32, Fixed64, Sfixed32, Sfixed64, Bool as BoolOf, Text as TextOf, Bytes as BytesOf, Enumeration}
use Rattle.message_types.specs.declared.fields.Shape.{Shape}
use Rattle.message_types.specs.declared.fields.Shape.TheVariants.{Single, Member, Many as ManyOf, Map as MapOf}
use Rattle.message_types.specs.declared.messages.Known.TheVariants.{Plain, Wrapper, Timestamp}
use Rattle.message_types.specs.declared.messages.Types.{Types}
use Rattle.schema.specs.declared.key.Key.{Key}
use Rattle.schema.specs.declared.key.Key.TheVariants.{Number as NumberKey, Truth as TruthKey, Text as TextKey}
use Rattle.schema.specs.declared.value.Item.{Item, Number, Truth, Text, Bytes, Message}
use Rattle.schema.specs.declared.value.Slot.{Slot, One, Many, Pairs}
use Rattle.schema.specs.declared.value.Value.{Value}
use Rattle.protojson_write.specs.JsonOutput.{text_of}

-- a field with its name and its JSON name
abbrev pub named_field : List ℕ → List ℕ → ℕ → Kind → Shape → Presence → Field
named_field name json n kind shape presence =
    record { name = name; json = json; number = n; kind = kind; shape = shape; presence = presence; packed = false }

-- a field whose two names are one
abbrev pub field : List ℕ → ℕ → Kind → Shape → Presence → Field
field json n kind shape presence = named_field json json n kind shape presence

-- a book, a wrapper of int64 and a timestamp, whose fields play no part here; the kinds of books are NONE 0, NOVEL 1,
-- FICTION 1
abbrev pub book_types : Types
book_types = record {
  messages = record {
    name = codes "p.Book";
    known = Plain;
    fields =
        field (codes "title") 2 (OneOf TextOf) Single Implicit
        ∷ field (codes "pages") 3 (OneOf Int32) Single Implicit
        ∷ field (codes "marks") 4 (OneOf Int64) ManyOf Implicit
        ∷ field (codes "kind") 5 (OneOf (Enumeration (record { 0 = 0 }))) Single Implicit
        ∷ field (codes "cover") 8 (OneOf BytesOf) Single Implicit
        ∷ field (codes "stock") 9 (OneOf Int32) (MapOf TextOf) Implicit
        ∷ field (codes "person") 10 (OneOf TextOf) (Member 0) Explicit
        ∷ field (codes "card") 11 (OneOf Uint64) (Member 0) Explicit
        ∷ field (codes "lent") 12 (OneOf BoolOf) Single Implicit
        ∷ field (codes "next") 14 (MessageOf (record { 0 = 0 })) Single Explicit
        ∷ field (codes "parts") 15 (MessageOf (record { 0 = 0 })) ManyOf Implicit
        ∷ field (codes "rows") 16 (OneOf BoolOf) (MapOf Int64) Implicit
        ∷ field (codes "flags") 17 (MessageOf (record { 0 = 0 })) (MapOf BoolOf) Implicit
        ∷ field (codes "price") 18 (MessageOf (record { 0 = 1 })) Single Explicit
        ∷ named_field (codes "page_count") (codes "pageCount") 19 (OneOf Uint32) Single Explicit
        ∷ field (codes "sint32") 20 (OneOf Sint32) Single Implicit
        ∷ field (codes "fixed32") 21 (OneOf Fixed32) Single Implicit
        ∷ field (codes "sfixed32") 22 (OneOf Sfixed32) Single Implicit
        ∷ field (codes "sint64") 23 (OneOf Sint64) Single Implicit
        ∷ field (codes "fixed64") 24 (OneOf Fixed64) Single Implicit
        ∷ field (codes "sfixed64") 25 (OneOf Sfixed64) Single Implicit
        ∷ field (codes "prices") 26 (MessageOf (record { 0 = 1 })) ManyOf Implicit
        ∷ field (codes "made") 27 (MessageOf (record { 0 = 2 })) Single Explicit
        ∷ field (codes "tolls") 28 (MessageOf (record { 0 = 1 })) (MapOf BoolOf) Implicit
        ∷ field (codes "fee") 29 (MessageOf (record { 0 = 1 })) (Member 0) Explicit
        ∷ [];
  } ∷ record {
    name = codes "google.protobuf.Int64Value";
    known = Wrapper;
    fields = field (codes "value") 1 (OneOf Int64) Single Implicit ∷ [];
  } ∷ record {
    name = codes "google.protobuf.Timestamp";
    known = Timestamp;
    fields = [];
  } ∷ [];
  enums = record {
    name = codes "p.Kind";
    values =
        record { name = codes "NONE"; number = pos 0 }
        ∷ record { name = codes "NOVEL"; number = pos 1 }
        ∷ record { name = codes "FICTION"; number = pos 1 }
        ∷ [];
  } ∷ [];
}

-- the text of a book with these slots
abbrev pub book_text : List (ℕ × Slot) → Option (List ℕ)
book_text slots = text_of book_types (record { 0 = 0 }) None (record { fields = slots })

-- the text of one field of it
abbrev pub field_of_book : ℕ → List (ℕ × Slot) → Option (List ℕ)
field_of_book n slots = text_of book_types (record { 0 = 0 }) (Some n) (record { fields = slots })

-- an empty message
abbrev pub nothing : Value
nothing = record { fields = [] }

-- an item that is a message with these slots
abbrev pub holding : List (ℕ × Slot) → Item
holding slots = Message (record { fields = slots })

-- a slot that is a map with these entries
abbrev pub map_of : List (Key × Item) → Slot
map_of entries = Pairs (record { entries = entries })

-- the slots of an instant that has no text: it is past the year 9999
abbrev pub far : List (ℕ × Slot)
far = (1, One (Number (pos 253402300800))) ∷ []

-- messages: their members by number, maps by key, and one in another
pub record MessageExamplesHold : Type 0 where
  pub empty : book_text [] ≡ Some (codes "{}")
  pub book :
      book_text ((3, One (Number (pos 100))) ∷ (4, Many (Number (negsuc 4) ∷ [])) ∷ (5, One (Number (pos 1))) ∷ [])
      ≡ Some (codes "{\"pages\":100,\"marks\":[\"-5\"],\"kind\":\"NOVEL\"}")
  pub cover : book_text ((8, One (Bytes (251 ∷ 255 ∷ []))) ∷ []) ≡ Some (codes "{\"cover\":\"+/8=\"}")
  pub texts :
      book_text ((9, map_of ((TextKey [], Number (pos 0)) ∷ (TextKey (codes "\""), Number (negsuc 0)) ∷ [])) ∷ [])
      ≡ Some (codes "{\"stock\":{\"\":0,\"\\\"\":-1}}")
  pub numbers :
      book_text ((16, map_of ((NumberKey (negsuc 1), Truth true) ∷ (NumberKey (pos 10), Truth false) ∷ [])) ∷ [])
      ≡ Some (codes "{\"rows\":{\"-2\":true,\"10\":false}}")
  pub truths : book_text ((17, map_of ((TruthKey false, holding []) ∷ (TruthKey true, holding []) ∷ [])) ∷ [])
      ≡ Some (codes "{\"flags\":{\"false\":{},\"true\":{}}}")
  pub nested :
      book_text
      ((14, One (holding ((14, One (holding [])) ∷ [])))
      ∷ (15, Many (holding [] ∷ holding ((12, One (Truth true)) ∷ []) ∷ []))
      ∷ [])
      ≡ Some (codes "{\"next\":{\"next\":{}},\"parts\":[{},{\"lent\":true}]}")
  pub wrapper : book_text ((18, One (holding ((1, One (Number (pos 7))) ∷ []))) ∷ []) ≡ Some (codes "{\"price\":\"7\"}")
  pub empty_wrapper : book_text ((18, One (holding [])) ∷ []) ≡ Some (codes "{\"price\":\"0\"}")
  pub wrappers :
      book_text ((26, Many (holding [] ∷ holding ((1, One (Number (pos 7))) ∷ []) ∷ [])) ∷ [])
      ≡ Some (codes "{\"prices\":[\"0\",\"7\"]}")
  pub optional : book_text ((19, One (Number (pos 0))) ∷ []) ≡ Some (codes "{\"pageCount\":0}")
  pub wrappers_by_key :
      book_text ((
        28,
        map_of ((TruthKey false, holding []) ∷ (TruthKey true, holding ((1, One (Number (pos 7))) ∷ [])) ∷ []),
      ) ∷ [])
      ≡ Some (codes "{\"tolls\":{\"false\":\"0\",\"true\":\"7\"}}")
  pub wrapper_in_a_oneof : book_text ((29, One (holding [])) ∷ []) ≡ Some (codes "{\"fee\":\"0\"}")
  pub wrapper_alone : text_of book_types (record { 0 = 1 }) None nothing ≡ Some (codes "\"0\"")

-- scalars: escapes, numbers in quotes, and an enum's number without a name
pub record ScalarExamplesHold : Type 0 where
  pub string : field_of_book 2 ((2, One (Text (34 ∷ 92 ∷ 47 ∷ 8 ∷ 9 ∷ 10 ∷ 12 ∷ 13 ∷ 0 ∷ 31 ∷ 127 ∷ []))) ∷ [])
      ≡ Some (codes "\"\\\"\\\\/\\b\\t\\n\\f\\r\\u0000\\u001f\u{7f}\"")
  pub int32 : field_of_book 3 ((3, One (Number (negsuc 2147483647))) ∷ []) ≡ Some (codes "-2147483648")
  pub uint64 : field_of_book 11 ((11, One (Number (pos 18446744073709551615))) ∷ [])
      ≡ Some (codes "\"18446744073709551615\"")
  pub uint32 : field_of_book 19 ((19, One (Number (pos 4294967295))) ∷ []) ≡ Some (codes "4294967295")
  pub sint32 : field_of_book 20 ((20, One (Number (negsuc 0))) ∷ []) ≡ Some (codes "-1")
  pub fixed32 : field_of_book 21 ((21, One (Number (pos 7))) ∷ []) ≡ Some (codes "7")
  pub sfixed32 : field_of_book 22 ((22, One (Number (negsuc 9))) ∷ []) ≡ Some (codes "-10")
  pub sint64 : field_of_book 23 ((23, One (Number (negsuc 0))) ∷ []) ≡ Some (codes "\"-1\"")
  pub fixed64 : field_of_book 24 ((24, One (Number (pos 7))) ∷ []) ≡ Some (codes "\"7\"")
  pub sfixed64 : field_of_book 25 ((25, One (Number (negsuc 9))) ∷ []) ≡ Some (codes "\"-10\"")
  pub truth : field_of_book 12 ((12, One (Truth true)) ∷ []) ≡ Some (codes "true")
  pub first_name : field_of_book 5 ((5, One (Number (pos 1))) ∷ []) ≡ Some (codes "\"NOVEL\"")
  pub no_name : field_of_book 5 ((5, One (Number (negsuc 0))) ∷ []) ≡ Some (codes "-1")

-- single fields: absent ones print their defaults, or null where absence is told from the default
pub record PartExamplesHold : Type 0 where
  pub text : field_of_book 2 [] ≡ Some (codes "\"\"")
  pub int32 : field_of_book 3 [] ≡ Some (codes "0")
  pub list : field_of_book 4 [] ≡ Some (codes "[]")
  pub kind : field_of_book 5 [] ≡ Some (codes "\"NONE\"")
  pub bytes : field_of_book 8 [] ≡ Some (codes "\"\"")
  pub map : field_of_book 9 [] ≡ Some (codes "{}")
  pub member : field_of_book 10 [] ≡ Some (codes "null")
  pub truth : field_of_book 12 [] ≡ Some (codes "false")
  pub message : field_of_book 14 [] ≡ Some (codes "null")
  pub int64 : text_of book_types (record { 0 = 1 }) (Some 1) nothing ≡ Some (codes "\"0\"")
  pub list_of_one : field_of_book 4 ((4, Many (Number (pos 0) ∷ [])) ∷ []) ≡ Some (codes "[\"0\"]")
  pub optional : field_of_book 19 [] ≡ Some (codes "null")
  pub beside : field_of_book 3 ((3, One (Number (pos 1))) ∷ (27, One (holding far)) ∷ []) ≡ Some (codes "1")
  pub unprintable : field_of_book 27 ((27, One (holding far)) ∷ []) ≡ None
  pub no_field : field_of_book 1 [] ≡ None
