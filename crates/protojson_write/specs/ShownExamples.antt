-- Worked examples of values that are shown, and of the trees of their texts, which are read as the values again.
use Rattle.std.specs.Prelude.{◌≡◌, ◌^◌, ◌-◌, ℕ, pos, negsuc, true, List, [], ◌∷◌, codes, Option, Some, None, Ok}
use Rattle.message_types.specs.declared.fields.Kind.TheVariants.{One as OneOf}
use Rattle.message_types.specs.declared.fields.Field.{Field}
use Rattle.message_types.specs.declared.fields.Presence.TheVariants.{Implicit, Explicit}
use Rattle.message_types.specs.declared.fields.Scalar.TheVariants.{Int64, Text as TextOf, Enumeration}
use Rattle.message_types.specs.declared.fields.Shape.TheVariants.{Single}
use Rattle.message_types.specs.declared.messages.Known.TheVariants.{Plain}
use Rattle.message_types.specs.declared.messages.TypeId.{TypeId}
use Rattle.message_types.specs.declared.messages.Types.{Types}
use Rattle.schema.specs.declared.key.Key.{Key}
use Rattle.schema.specs.declared.key.Key.TheVariants.{Number as NumberKey, Truth as TruthKey, Text as TextKey}
use Rattle.schema.specs.declared.value.Item.TheOpen.{Number, Truth, Text, Bytes, Message, Many, Pairs as Entries}
use Rattle.schema.specs.declared.value.Item.{Item, roll-Item}
use Rattle.schema.specs.declared.value.Slot.{Slot, roll-Slot}
use Rattle.schema.specs.declared.value.Value.{Value}
use Rattle.json_events.specs.JsonTree.{Json, literal, number, string, array, object, no_items, item, no_pairs, pair}
use Rattle.json_events.specs.declared.state.Name.TheVariants as names
use Rattle.json_meanings.specs.ExampleTypes.{book, book_types, field_as_named, field_with, one_pair, one_slot, only, scalar_field, two_pairs, type_at}
use Rattle.json_meanings.specs.JsonDenotes.{reading}
use Rattle.json_meanings.specs.KnownReadings.{schema_of}
use Rattle.protojson_write.specs.JsonOutput.{text_of}
use Rattle.protojson_write.specs.ShownMeans.{shown_part}

-- shelves, whose fields are declared from the last number to the first; the kinds of shelves are NONE 0, NOVEL 1,
-- FICTION 1
abbrev pub shelf_types : Types
shelf_types = record {
  messages = record {
    name = codes "lib.Shelf";
    known = Plain;
    fields =
        field_as_named (codes "note") 9 (OneOf TextOf) Single Explicit
        ∷ scalar_field (codes "count") 2 Int64
        ∷ field_with (codes "shelf_kind") (codes "shelfKind") 1 (OneOf (Enumeration (record { 0 = 0 }))) Single Implicit
        ∷ [];
  } ∷ [];
  enums = record {
    name = codes "lib.ShelfKind";
    values =
        record { name = codes "NONE"; number = pos 0 }
        ∷ record { name = codes "NOVEL"; number = pos 1 }
        ∷ record { name = codes "FICTION"; number = pos 1 }
        ∷ [];
  } ∷ [];
}

-- the value has this text, and this tree is read as what is shown of it
pub record IsShownAndRead (types : Types) (id : TypeId) (part : Option ℕ) (v : Value) (text : List ℕ)
    (j : Json) : Type 0 where
  pub shown : text_of types id part v ≡ Some text
  pub read : reading (schema_of types) id part j ≡ Ok (shown_part part v)

-- a message with these slots
abbrev pub message_with : List (ℕ × Slot) → Value
message_with slots = record { fields = slots }

-- a map with these entries
abbrev pub map_slot : List (Key × Item) → Slot
map_slot entries = roll-Slot (Entries (record { entries = entries }))

-- an item that is a message with these slots
abbrev pub message_item : List (ℕ × Slot) → Item
message_item slots = roll-Item (Message (message_with slots))

-- messages
pub record ShownMessagesHold : Type 0 where
  pub nothing : IsShownAndRead book_types book None (message_with []) (codes "{}") (object no_pairs)
  pub by_number : IsShownAndRead shelf_types (type_at 0) None
      (message_with ((1, one_slot (Number (pos 1))) ∷ (2, one_slot (Number (negsuc 6))) ∷ (9, one_slot (Text [])) ∷ []))
      (codes "{\"shelfKind\":\"NOVEL\",\"count\":\"-7\",\"note\":\"\"}")
      (object (pair (codes "shelfKind") (string (codes "NOVEL"))
      (pair (codes "count") (string (codes "-7")) (pair (codes "note") (string []) no_pairs))))
  pub text_keys : IsShownAndRead book_types book None
      (message_with ((
        9,
        map_slot
            ((TextKey [], roll-Item (Number (pos 0))) ∷ (TextKey (codes "\""), roll-Item (Number (negsuc 1))) ∷ []),
      ) ∷ []))
      (codes "{\"stock\":{\"\":0,\"\\\"\":-2}}")
      (one_pair (codes "stock") (two_pairs [] (number (codes "0")) (codes "\"") (number (codes "-2"))))
  pub number_and_truth_keys : IsShownAndRead book_types book None
      (message_with (
      (15, map_slot ((TruthKey true, roll-Item (Number (pos 1))) ∷ []))
      ∷ (17, map_slot ((NumberKey (pos 10), message_item []) ∷ []))
      ∷ []))
      (codes "{\"signed\":{\"true\":1},\"parts\":{\"10\":{}}}")
      (two_pairs (codes "signed") (one_pair (codes "true") (number (codes "1"))) (codes "parts")
      (one_pair (codes "10") (object no_pairs)))
  pub nested : IsShownAndRead book_types book None
      (message_with (
      (14, one_slot (Message (message_with ((6, one_slot (Truth true)) ∷ []))))
      ∷ (16, roll-Slot (Many (message_item [] ∷ message_item ((2, one_slot (Text (codes "b"))) ∷ []) ∷ [])))
      ∷ []))
      (codes "{\"sequel\":{\"lent\":true},\"volumes\":[{},{\"title\":\"b\"}]}")
      (two_pairs (codes "sequel") (one_pair (codes "lent") (literal names.True)) (codes "volumes")
      (array (item (object no_pairs) (item (one_pair (codes "title") (string (codes "b"))) no_items))))

-- single fields
pub record ShownFieldsHold : Type 0 where
  pub int64 : IsShownAndRead book_types book (Some 11) (only 11 (Number (pos (2 ^ 63 - 1))))
      (codes "\"9223372036854775807\"") (string (codes "9223372036854775807"))
  pub no_name : IsShownAndRead book_types book (Some 5) (only 5 (Number (negsuc 0))) (codes "-1") (number (codes "-1"))
  pub name_like_a_number : IsShownAndRead book_types book (Some 5) (only 5 (Number (pos 3))) (codes "\"7\"")
      (string (codes "7"))
  pub bytes : IsShownAndRead book_types book (Some 7) (only 7 (Bytes (codes "fo"))) (codes "\"Zm8=\"")
      (string (codes "Zm8="))
  pub beside : IsShownAndRead book_types book (Some 2)
      (message_with ((2, one_slot (Text (codes "a"))) ∷ (3, one_slot (Number (pos 1))) ∷ [])) (codes "\"a\"")
      (string (codes "a"))
  pub absent_number : IsShownAndRead book_types book (Some 3) (only 2 (Text (codes "a"))) (codes "0")
      (number (codes "0"))
  pub absent_message : IsShownAndRead book_types book (Some 14) (only 2 (Text (codes "a"))) (codes "null")
      (literal names.Null)
  pub absent_list : IsShownAndRead book_types book (Some 4) (message_with []) (codes "[]") (array no_items)
  pub absent_map : IsShownAndRead book_types book (Some 9) (message_with []) (codes "{}") (object no_pairs)
