-- Worked examples: what trees mean, by the kinds and the shapes of fields (the ProtoJSON guide, "Representation of each
-- type").
use Rattle.std.specs.Prelude.{◌≡◌, ◌^◌, ◌-◌, pos, negsuc, true, [], ◌∷◌, codes, Some, None, Ok}
use Rattle.schema.specs.declared.key.Key.TheVariants.{Number as NumberKey, Truth as TruthKey, Text as TextKey}
use Rattle.schema.specs.declared.value.Item.TheOpen.{Number, Truth, Text, Bytes, Message, Many, Pairs as Entries}
use Rattle.schema.specs.declared.value.Item.{roll-Item}
use Rattle.schema.specs.declared.value.Slot.{roll-Slot}
use Rattle.json_events.specs.JsonTree.{literal, number, string, array, object, no_items, item, no_pairs, pair}
use Rattle.json_events.specs.declared.state.Name.TheVariants as names
use Rattle.json_meanings.specs.ExampleTypes.{book, book_with_sequels, books, in_sequels, is_read, one_pair, one_slot, only, two_pairs}
use Rattle.json_meanings.specs.JsonDenotes.{reading}

-- single scalars
pub record ScalarMeaningsHold : Type 0 where
  pub json_name : reading books book None (one_pair (codes "pageCount") (number (codes "1e2")))
      ≡ Ok (only 3 (Number (pos 100)))
  pub proto_name : reading books book None (one_pair (codes "page_count") (number (codes "-1.50e1")))
      ≡ Ok (only 3 (Number (negsuc 14)))
  pub int32_in_quotes : reading books book None (one_pair (codes "pageCount") (string (codes "100e-2")))
      ≡ Ok (only 3 (Number (pos 1)))
  pub least_of_int32 : reading books book (Some 3) (number (codes "-2147483648"))
      ≡ Ok (only 3 (Number (negsuc (2 ^ 31 - 1))))
  pub greatest_of_uint32 : reading books book (Some 13) (number (codes "4294967295"))
      ≡ Ok (only 13 (Number (pos (2 ^ 32 - 1))))
  pub greatest_of_int64 : reading books book (Some 11) (string (codes "9223372036854775807"))
      ≡ Ok (only 11 (Number (pos (2 ^ 63 - 1))))
  pub int64_without_quotes : reading books book (Some 11) (number (codes "-9223372036854775808"))
      ≡ Ok (only 11 (Number (negsuc (2 ^ 63 - 1))))
  pub greatest_of_fixed64 : reading books book (Some 8) (string (codes "18446744073709551615"))
      ≡ Ok (only 8 (Number (pos (2 ^ 64 - 1))))
  pub truth : reading books book (Some 6) (literal names.True) ≡ Ok (only 6 (Truth true))
  pub text : reading books book (Some 2) (string (codes "a")) ≡ Ok (only 2 (Text (codes "a")))
  pub enum_name : reading books book (Some 5) (string (codes "NOVEL")) ≡ Ok (only 5 (Number (pos 1)))
  pub enum_number : reading books book (Some 5) (number (codes "1")) ≡ Ok (only 5 (Number (pos 1)))
  pub enum_number_in_quotes : reading books book (Some 5) (string (codes "-4")) ≡ Ok (only 5 (Number (negsuc 3)))
  pub name_like_a_number : reading books book (Some 5) (string (codes "7")) ≡ Ok (only 5 (Number (pos 3)))
  pub number_like_a_name : reading books book (Some 5) (number (codes "7")) ≡ Ok (only 5 (Number (pos 7)))

-- bytes in every lawful spelling
pub record BytesMeaningsHold : Type 0 where
  pub padded : reading books book (Some 7) (string (codes "Zm8=")) ≡ Ok (only 7 (Bytes (codes "fo")))
  pub unpadded : reading books book (Some 7) (string (codes "Zm8")) ≡ Ok (only 7 (Bytes (codes "fo")))
  pub for_urls : reading books book (Some 7) (string (codes "-_8")) ≡ Ok (only 7 (Bytes (251 ∷ 255 ∷ [])))
  pub mixed : reading books book (Some 7) (string (codes "-/8=")) ≡ Ok (only 7 (Bytes (251 ∷ 255 ∷ [])))
  pub none : reading books book (Some 7) (string []) ≡ is_read []

-- what is stored, and what is not
pub record PresenceMeaningsHold : Type 0 where
  pub nothing : reading books book None (object no_pairs) ≡ is_read []
  pub default_is_not_stored : reading books book None
      (two_pairs (codes "title") (string []) (codes "lent") (literal names.False)) ≡ is_read []
  pub minus_zero : reading books book (Some 3) (number (codes "-0.0e5")) ≡ is_read []
  pub told_default_is_stored : reading books book (Some 8) (number (codes "0")) ≡ Ok (only 8 (Number (pos 0)))
  pub member_keeps_default : reading books book (Some 10) (string []) ≡ Ok (only 10 (Text []))
  pub null_is_unset : reading books book None
      (two_pairs (codes "title") (literal names.Null) (codes "marks") (literal names.Null)) ≡ is_read []
  pub second_member_is_null : reading books book None
      (two_pairs (codes "person") (string []) (codes "card") (literal names.Null)) ≡ Ok (only 10 (Text []))
  pub first_member_is_null : reading books book None
      (two_pairs (codes "card") (literal names.Null) (codes "person") (string [])) ≡ Ok (only 10 (Text []))
  pub two_oneofs : reading books book None
      (two_pairs (codes "person") (string (codes "a")) (codes "shelf") (string (codes "b")))
      ≡ is_read ((10, one_slot (Text (codes "a"))) ∷ (18, one_slot (Text (codes "b"))) ∷ [])
  pub null_map_and_message : reading books book None
      (two_pairs (codes "stock") (literal names.Null) (codes "sequel") (literal names.Null)) ≡ is_read []
  pub part_is_null : reading books book (Some 3) (literal names.Null) ≡ is_read []
  pub empty_list : reading books book (Some 4) (array no_items) ≡ is_read []
  pub empty_map : reading books book (Some 9) (object no_pairs) ≡ is_read []
  pub empty_message : reading books book (Some 14) (object no_pairs) ≡ Ok (only 14 (Message (record { fields = [] })))

-- messages, lists and maps
pub record ShapeMeaningsHold : Type 0 where
  pub rising : reading books book None
      (object (pair (codes "kind") (string (codes "NOVEL"))
      (pair (codes "marks") (array (item (string (codes "-5")) (item (number (codes "0")) no_items)))
      (pair (codes "title") (string (codes "b")) no_pairs))))
      ≡ is_read ((2, one_slot (Text (codes "b"))) ∷
      (4, roll-Slot (Many (roll-Item (Number (negsuc 4)) ∷ roll-Item (Number (pos 0)) ∷ []))) ∷
      (5, one_slot (Number (pos 1))) ∷ [])
  pub message : reading books book (Some 14) (one_pair (codes "title") (string (codes "b")))
      ≡ Ok (only 14 (Message (only 2 (Text (codes "b")))))
  pub messages : reading books book (Some 16) (array (item (object no_pairs) no_items))
      ≡ is_read ((16, roll-Slot (Many (roll-Item (Message (record { fields = [] })) ∷ []))) ∷ [])
  pub entries : reading books book (Some 9)
      (two_pairs (codes "b") (number (codes "1")) (codes "a") (number (codes "0")))
      ≡ is_read ((
        9,
        roll-Slot
            (Entries (record {
              entries = (TextKey (codes "a"), roll-Item (Number (pos 0))) ∷
                  (TextKey (codes "b"), roll-Item (Number (pos 1))) ∷ [];
            })),
      ) ∷ [])
  pub truth_key : reading books book (Some 15) (one_pair (codes "true") (number (codes "-1")))
      ≡ is_read ((15, roll-Slot (Entries (record { entries = (TruthKey true, roll-Item (Number (negsuc 0))) ∷ [] })))
      ∷ [])
  pub number_key : reading books book (Some 17) (one_pair (codes "1e1") (object no_pairs))
      ≡ is_read ((
        17,
        roll-Slot
            (Entries (record { entries = (NumberKey (pos 10), roll-Item (Message (record { fields = [] }))) ∷ [] })),
      ) ∷
      [])

-- what stands at the last of the 100 levels
pub record DepthMeaningsHold : Type 0 where
  pub entry : reading books book None
      (in_sequels 98 (one_pair (codes "stock") (one_pair (codes "a") (number (codes "1")))))
      ≡ Ok
      (book_with_sequels 98 (record {
        fields = (
          9,
          roll-Slot
              (Entries (record { entries = (TextKey (codes "a"), roll-Item (Number (pos 1))) ∷ [] })),
        ) ∷ [];
      }))
  pub entry_of_messages : reading books book None
      (in_sequels 97 (one_pair (codes "parts") (one_pair (codes "1") (object no_pairs))))
      ≡ Ok
      (book_with_sequels 97 (record {
        fields = (
          17,
          roll-Slot
              (Entries (record { entries = (NumberKey (pos 1), roll-Item (Message (record { fields = [] }))) ∷ [] })),
        ) ∷ [];
      }))
  pub item_of_messages : reading books book None
      (in_sequels 98 (one_pair (codes "volumes") (array (item (object no_pairs) no_items))))
      ≡ Ok
      (book_with_sequels 98 (record {
        fields = (16, roll-Slot (Many (roll-Item (Message (record { fields = [] })) ∷ []))) ∷ [];
      }))
  pub message : reading books book None (in_sequels 99 (object no_pairs))
      ≡ Ok (book_with_sequels 99 (record { fields = [] }))
