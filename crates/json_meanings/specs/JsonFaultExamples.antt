-- Worked examples: the first faults of trees, each kind alone, and each two that the order at one token tells apart.
use Rattle.std.specs.Prelude.{◌≡◌, [], ◌∷◌, codes, Some, None, Err}
use Rattle.json_events.specs.JsonTree.{literal, number, string, array, object, no_items, item, no_pairs, opens, key, digits}
use Rattle.json_events.specs.declared.state.Bracket.TheVariants as bracket
use Rattle.json_events.specs.declared.state.Name.TheVariants as names
use Rattle.json_meanings.specs.ExampleTypes.{book, books, in_sequels, one_pair, two_pairs}
use Rattle.json_meanings.specs.JsonDenotes.{reading, spot_of}
use Rattle.json_meanings.specs.ReadingTurns.{run, start}
use Rattle.json_meanings.specs.declared.fault.FieldKind.TheVariants.{UnknownKey, KeyTwice, OneofTwice, WrongShape, BadNumber, OutOfRange, BadEnum, BadText, NullInside, TooDeep}

-- faults of a value's token
pub record ValueFaultsHold : Type 0 where
  pub half_for_an_enum : reading books book None (one_pair (codes "kind") (number (codes "1.5"))) ≡ Err (2, BadNumber)
  pub half_in_quotes_for_an_enum : reading books book None (one_pair (codes "kind") (string (codes "1.5")))
      ≡ Err (2, BadNumber)
  pub no_number : reading books book None (one_pair (codes "pageCount") (string (codes "red"))) ≡ Err (2, BadNumber)
  pub leading_zero : reading books book None (one_pair (codes "pageCount") (string (codes "01"))) ≡ Err (2, BadNumber)
  pub space_behind : reading books book None (one_pair (codes "pageCount") (string (codes "1 "))) ≡ Err (2, BadNumber)
  pub past_int32 : reading books book None (one_pair (codes "pageCount") (number (codes "2147483648")))
      ≡ Err (2, OutOfRange)
  pub past_int64 : reading books book None (one_pair (codes "card") (number (codes "9223372036854775808")))
      ≡ Err (2, OutOfRange)
  pub below_uint32 : reading books book None (one_pair (codes "copies") (number (codes "-1"))) ≡ Err (2, OutOfRange)
  pub past_an_enum : reading books book None (one_pair (codes "kind") (number (codes "2147483648")))
      ≡ Err (2, OutOfRange)
  pub no_value_of_the_enum : reading books book None (one_pair (codes "kind") (string (codes "POEM")))
      ≡ Err (2, BadEnum)
  pub unused_bits : reading books book None (one_pair (codes "cover") (string (codes "Zm9="))) ≡ Err (2, BadText)
  pub padding_cut_short : reading books book None (one_pair (codes "cover") (string (codes "Zg="))) ≡ Err (2, BadText)
  pub null_in_a_list : reading books book (Some 4) (array (item (literal names.Null) no_items)) ≡ Err (1, NullInside)
  pub null_in_a_map : reading books book (Some 9) (one_pair (codes "a") (literal names.Null)) ≡ Err (2, NullInside)
  pub null_among_messages : reading books book (Some 16) (array (item (literal names.Null) no_items))
      ≡ Err (1, NullInside)
  pub second_member : reading books book None
      (two_pairs (codes "person") (string (codes "a")) (codes "card") (number (codes "1"))) ≡ Err (4, OneofTwice)
  pub level_101 : reading books book None (in_sequels 100 (object no_pairs)) ≡ Err (200, TooDeep)
  pub level_101_of_a_part : reading books book (Some 14) (in_sequels 99 (object no_pairs)) ≡ Err (198, TooDeep)

-- faults of a key
pub record KeyFaultsHold : Type 0 where
  pub unknown : reading books book None (one_pair (codes "zz") (number (codes "1"))) ≡ Err (1, UnknownKey)
  pub twice : reading books book None
      (two_pairs (codes "title") (literal names.Null) (codes "title") (string (codes "b"))) ≡ Err (3, KeyTwice)
  pub twice_by_the_other_name : reading books book None
      (two_pairs (codes "pageCount") (number (codes "1")) (codes "page_count") (number (codes "2"))) ≡ Err (3, KeyTwice)
  pub map_key_twice : reading books book None
      (one_pair (codes "stock") (two_pairs (codes "a") (number (codes "1")) (codes "a") (number (codes "2"))))
      ≡ Err (5, KeyTwice)
  pub map_key_twice_as_a_number : reading books book (Some 17)
      (two_pairs (codes "1") (object no_pairs) (codes "1e0") (object no_pairs)) ≡ Err (4, KeyTwice)
  pub no_truth : reading books book (Some 15) (one_pair (codes "True") (number (codes "1"))) ≡ Err (1, BadText)
  pub no_number : reading books book (Some 17) (one_pair (codes "a") (object no_pairs)) ≡ Err (1, BadNumber)
  pub negative : reading books book (Some 17) (one_pair (codes "-1") (object no_pairs)) ≡ Err (1, OutOfRange)
  pub entry_at_level_101 : reading books book None
      (in_sequels 99 (one_pair (codes "stock") (one_pair (codes "a") (number (codes "1"))))) ≡ Err (201, TooDeep)
  pub entry_of_messages_at_level_100 : reading books book None
      (in_sequels 98 (one_pair (codes "parts") (one_pair (codes "1") (object no_pairs)))) ≡ Err (199, TooDeep)

-- tokens of a wrong kind
pub record WrongShapesHold : Type 0 where
  pub message_is_an_array : reading books book None (array (item (literal names.Null) no_items)) ≡ Err (0, WrongShape)
  pub message_is_null : reading books book None (literal names.Null) ≡ Err (0, WrongShape)
  pub message_is_a_text : reading books book (Some 14) (string (codes "a")) ≡ Err (0, WrongShape)
  pub number_is_a_truth : reading books book (Some 3) (literal names.True) ≡ Err (0, WrongShape)
  pub truth_is_a_text : reading books book (Some 6) (string (codes "true")) ≡ Err (0, WrongShape)
  pub truth_is_a_number : reading books book (Some 6) (number (codes "1")) ≡ Err (0, WrongShape)
  pub text_is_a_number : reading books book (Some 2) (number (codes "1")) ≡ Err (0, WrongShape)
  pub bytes_are_a_number : reading books book (Some 7) (number (codes "1")) ≡ Err (0, WrongShape)
  pub enum_is_a_truth : reading books book (Some 5) (literal names.False) ≡ Err (0, WrongShape)
  pub number_is_an_object : reading books book (Some 3) (object no_pairs) ≡ Err (0, WrongShape)
  pub list_is_a_number : reading books book (Some 4) (number (codes "1")) ≡ Err (0, WrongShape)
  pub list_is_an_object : reading books book (Some 4) (object no_pairs) ≡ Err (0, WrongShape)
  pub list_in_a_list : reading books book (Some 4) (array (item (array no_items) no_items)) ≡ Err (1, WrongShape)
  pub map_is_an_array : reading books book (Some 9) (array no_items) ≡ Err (0, WrongShape)
  pub number_is_an_array : reading books book (Some 3) (array no_items) ≡ Err (0, WrongShape)

-- two faults at one token, and faults at two
pub record FaultOrdersHold : Type 0 where
  pub oneof_before_a_bracket : reading books book None
      (two_pairs (codes "person") (string (codes "a")) (codes "card") (array no_items)) ≡ Err (4, OneofTwice)
  pub oneof_before_shape : reading books book None
      (two_pairs (codes "person") (string (codes "a")) (codes "card") (literal names.True)) ≡ Err (4, OneofTwice)
  pub oneof_before_number : reading books book None
      (two_pairs (codes "person") (string (codes "a")) (codes "card") (number (codes "1.5"))) ≡ Err (4, OneofTwice)
  pub oneof_before_depth : reading books book None
      (in_sequels 99 (two_pairs (codes "person") (string (codes "a")) (codes "prior") (object no_pairs)))
      ≡ Err (202, OneofTwice)
  pub shape_before_depth : reading books book None (in_sequels 100 (literal names.True)) ≡ Err (200, WrongShape)
  pub key_before_depth : reading books book None
      (in_sequels 98 (one_pair (codes "parts") (one_pair (codes "a") (object no_pairs)))) ≡ Err (199, BadNumber)
  pub null_before_depth : reading books book None
      (in_sequels 99 (one_pair (codes "volumes") (array (item (literal names.Null) no_items)))) ≡ Err (201, NullInside)
  pub first_of_two : reading books book None
      (two_pairs (codes "kind") (number (codes "1.5")) (codes "zz") (number (codes "1"))) ≡ Err (2, BadNumber)

-- tokens that end nothing yet
pub record TokenFaultsHold : Type 0 where
  pub unknown_key : run books (start (spot_of books book None)) (opens bracket.Object ∷ key (codes "zz") ∷ [])
      ≡ Err (1, UnknownKey)
  pub first_of_two : run books (start (spot_of books book None))
      (opens bracket.Object ∷ key (codes "kind") ∷ digits (codes "1.5") ∷ key (codes "zz") ∷ []) ≡ Err (2, BadNumber)
