-- Worked bodies of books (the ProtoJSON guide; RFC 8259, section 2).
use Rattle.std.specs.Prelude.{◌-◌, ◌^◌, [], codes, true, Some, None}
use Rattle.schema.specs.declared.value.Item.TheOpen.{Truth}
use Rattle.json_meanings.specs.ExampleTypes.{book, books, only}
use Rattle.json_meanings.specs.TextMeanings.{BytesMean}
use Rattle.json_meanings.specs.declared.fault.FieldKind.TheVariants.{BadNumber, NullInside, WrongShape}
use Rattle.json_bodies.specs.FrontFaults.{IsFrontFault, ShowsNoFault}
use Rattle.json_bodies.specs.WholeMessages.{IsBodyFault}
use Rattle.json_bodies.specs.declared.fault.BodyFault.TheVariants.{Field, Syntax}

-- bodies that mean a value, with white space around
pub record BodyMeaningsHold : Type 0 where
  pub nothing : BytesMean books book None (codes " {} ") (record { fields = [] })
  pub member : BytesMean books book None (codes "{\"lent\": true}") (only 6 (Truth true))
  pub part : BytesMean books book (Some 6) (codes "\ttrue\n") (only 6 (Truth true))

-- bodies with a fault, whose first byte stands at 0
pub record BodyFaultsHold : Type 0 where
  -- a text
  pub null_for_a_book : IsBodyFault books book None 0 (codes " null") (Field 1 WrongShape)
  -- a number that the body ends
  pub half_at_the_end : IsBodyFault books book (Some 3) 0 (codes " 1.5") (Field 1 BadNumber)
  -- before the byte with which no text goes on
  pub before_the_break : IsBodyFault books book (Some 4) 0 (codes "[null}") (Field 1 NullInside)
  -- no byte
  pub empty : IsBodyFault books book None 0 [] (Syntax 0)
  -- a number that has not ended, since no byte behind it shows that
  pub cut_behind_a_number : IsBodyFault books book None 0 (codes "{\"pageCount\":1.5") (Syntax 16)
  -- one that has ended, since a blank behind it shows that
  pub blank_behind_a_number : IsBodyFault books book None 0 (codes "{\"pageCount\":1.5 ") (Field 13 BadNumber)
  -- a byte behind a text
  pub behind_a_text : IsBodyFault books book None 0 (codes "{\"lent\":true}x") (Syntax 13)

-- the same bodies, whose first byte stands at 100
pub record PlacedFaultsHold : Type 0 where
  pub null_for_a_book : IsBodyFault books book None 100 (codes " null") (Field 101 WrongShape)
  pub half_at_the_end : IsBodyFault books book (Some 3) 100 (codes " 1.5") (Field 101 BadNumber)
  pub before_the_break : IsBodyFault books book (Some 4) 100 (codes "[null}") (Field 101 NullInside)
  pub empty : IsBodyFault books book None 100 [] (Syntax 100)
  pub cut_behind_a_number : IsBodyFault books book None 100 (codes "{\"pageCount\":1.5") (Syntax 116)
  pub blank_behind_a_number : IsBodyFault books book None 100 (codes "{\"pageCount\":1.5 ") (Field 113 BadNumber)
  pub behind_a_text : IsBodyFault books book None 100 (codes "{\"lent\":true}x") (Syntax 113)
  -- places stop at the last number of 64 bits
  pub last_place : IsBodyFault books book None (2 ^ 64 - 6) (codes "{\"lent\":true}x") (Syntax (2 ^ 64 - 1))

-- what bytes show before they end, of which the first stands at a place
pub record FrontFaultsHold : Type 0 where
  -- no byte
  pub empty : ShowsNoFault books book None 0 []
  -- a number that has not ended: the byte behind it may go on with it
  pub cut_behind_a_number : ShowsNoFault books book None 0 (codes "{\"pageCount\":1.5")
  -- one that has ended, since a blank behind it shows that
  pub blank_behind_a_number : IsFrontFault books book None 0 (codes "{\"pageCount\":1.5 ") (Field 13 BadNumber)
  -- one that has not: no text goes on so
  pub letter_behind_a_number : IsFrontFault books book None 0 (codes "{\"pageCount\":1.5x") (Syntax 16)
  -- a name, which ends with its last letter
  pub null_for_a_book : IsFrontFault books book None 0 (codes " null") (Field 1 WrongShape)
  -- a byte behind a text
  pub behind_a_text : IsFrontFault books book None 0 (codes "{\"lent\":true}x") (Syntax 13)
  -- and one behind 100 others
  pub behind_a_placed_text : IsFrontFault books book None 100 (codes "{\"lent\":true}x") (Syntax 113)
