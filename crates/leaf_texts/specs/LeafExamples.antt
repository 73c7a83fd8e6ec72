-- Worked texts of leaves (the ProtoJSON guide, "Representation of each type").
use Rattle.std.specs.Prelude.{◌^◌, ◌-◌, ◌∷◌, [], pos, negsuc, true, codes, ℕ}
use Rattle.json_meanings.specs.ExampleTypes.{only, scalar_field, type_at, type_with}
use Rattle.known_types.specs.KnownTextExamples.{path, with_slots}
use Rattle.known_types.specs.KnownTexts.{number_as_slot}
use Rattle.leaf_texts.specs.LeafTexts.{IsLeafText, IsLeafTextFault}
use Rattle.message_types.specs.declared.fields.Kind.{Kind}
use Rattle.message_types.specs.declared.fields.Kind.TheVariants.{One as OneOf, Message as MessageOf}
use Rattle.message_types.specs.declared.fields.Scalar.TheVariants.{Int32, Uint32, Uint64, Bool as BoolOf, Text as TextOf, Bytes as BytesOf, Enumeration}
use Rattle.message_types.specs.declared.messages.Known.TheVariants.{Plain, Timestamp, Duration, FieldMask, Wrapper}
use Rattle.message_types.specs.declared.messages.Types.{Types}
use Rattle.scalar_texts.specs.ScalarExamples.{colours, id_at}
use Rattle.scalar_texts.specs.declared.fault.ScalarFault.TheVariants.{BadText, BadNumber, OutOfRange, BadEnum, NotUtf8}
use Rattle.schema.specs.declared.value.Item.TheOpen.{Number, Truth, Text, Bytes, Message, Many}
use Rattle.schema.specs.declared.value.Slot.{roll-Slot}

-- a plain message, two wrappers and the other well-known types, whose fields matter for a wrapper alone; and an enum
abbrev pub leaf_types : Types
leaf_types = record {
  messages =
      type_with (codes "lib.Plain") Plain []
      ∷ type_with (codes "google.protobuf.UInt32Value") Wrapper (scalar_field (codes "value") 1 Uint32 ∷ [])
      ∷ type_with (codes "google.protobuf.StringValue") Wrapper (scalar_field (codes "value") 1 TextOf ∷ [])
      ∷ type_with (codes "google.protobuf.Timestamp") Timestamp []
      ∷ type_with (codes "google.protobuf.Duration") Duration []
      ∷ type_with (codes "google.protobuf.FieldMask") FieldMask []
      ∷ [];
  enums = colours.enums;
}

-- the kinds of the messages, by their places
abbrev pub message_kind : ℕ → Kind
message_kind n = MessageOf (type_at n)

-- that of the enum
abbrev pub colour : Kind
colour = OneOf (Enumeration (id_at 0))

-- texts that mean an item
pub record LeafReadingsHold : Type 0 where
  pub number : IsLeafText leaf_types (OneOf Int32) (codes "1e2") (Number (pos 100))
  pub unsigned : IsLeafText leaf_types (OneOf Uint64) (codes "18446744073709551615") (Number (pos (2 ^ 64 - 1)))
  pub truth : IsLeafText leaf_types (OneOf BoolOf) (codes "true") (Truth true)
  pub string : IsLeafText leaf_types (OneOf TextOf) (codes "1.5") (Text (codes "1.5"))
  pub bytes : IsLeafText leaf_types (OneOf BytesOf) (codes "-_8") (Bytes (251 ∷ 255 ∷ []))
  pub name : IsLeafText leaf_types colour (codes "SCARLET") (Number (pos 1))
  pub enum_number : IsLeafText leaf_types colour (codes "7.0") (Number (pos 7))
  pub wrapper : IsLeafText leaf_types (message_kind 1) (codes "2147483648") (Message (only 1 (Number (pos (2 ^ 31)))))
  pub wrapped_default : IsLeafText leaf_types (message_kind 1) (codes "-0") (Message (with_slots []))
  pub wrapped_string : IsLeafText leaf_types (message_kind 2) (codes "1.5") (Message (only 1 (Text (codes "1.5"))))
  pub wrapped_nothing : IsLeafText leaf_types (message_kind 2) [] (Message (with_slots []))
  pub instant : IsLeafText leaf_types (message_kind 3) (codes "1969-12-31T23:59:59.25Z")
      (Message (with_slots ((1, number_as_slot (negsuc 0)) ∷ (2, number_as_slot (pos 250_000_000)) ∷ [])))
  pub length : IsLeafText leaf_types (message_kind 4) (codes "1.5s")
      (Message (with_slots ((1, number_as_slot (pos 1)) ∷ (2, number_as_slot (pos 500_000_000)) ∷ [])))
  pub mask : IsLeafText leaf_types (message_kind 5) (codes "a.b,cD")
      (Message (with_slots ((1, roll-Slot (Many (path (codes "a.b") ∷ path (codes "c_d") ∷ []))) ∷ [])))

-- texts with a fault, and a text of a plain message, which is no leaf
pub record LeafFaultsHold : Type 0 where
  pub capital : IsLeafTextFault leaf_types (OneOf BoolOf) (codes "True") BadText
  pub fraction : IsLeafTextFault leaf_types (OneOf Int32) (codes "1.5") BadNumber
  pub past : IsLeafTextFault leaf_types (OneOf Int32) (codes "2147483648") OutOfRange
  pub no_value : IsLeafTextFault leaf_types colour (codes "red") BadEnum
  pub lone_byte : IsLeafTextFault leaf_types (OneOf TextOf) (255 ∷ []) NotUtf8
  pub wrapped_fraction : IsLeafTextFault leaf_types (message_kind 1) (codes "1.5") BadNumber
  pub wrapped_byte : IsLeafTextFault leaf_types (message_kind 2) (255 ∷ []) NotUtf8
  pub second_60 : IsLeafTextFault leaf_types (message_kind 3) (codes "2016-12-31T23:59:60Z") BadText
  pub year_0000 : IsLeafTextFault leaf_types (message_kind 3) (codes "0000-12-31T23:59:59-00:01") OutOfRange
  pub far : IsLeafTextFault leaf_types (message_kind 4) (codes "315576000001s") OutOfRange
  pub minutes : IsLeafTextFault leaf_types (message_kind 4) (codes "1m") BadText
  pub underscore : IsLeafTextFault leaf_types (message_kind 5) (codes "user.display_name") BadText
  pub plain : IsLeafTextFault leaf_types (message_kind 0) (codes "1s") BadText
