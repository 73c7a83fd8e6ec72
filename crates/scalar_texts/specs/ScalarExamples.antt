-- Worked texts of scalars (the ProtoJSON guide, "Representation of each type").
use Rattle.std.specs.Prelude.{◌^◌, ◌-◌, ◌∷◌, [], pos, negsuc, true, false, codes, ℕ}
use Rattle.message_types.specs.declared.enums.EnumId.{EnumId}
use Rattle.message_types.specs.declared.fields.Scalar.TheVariants.{Int32, Sint64, Uint32, Uint64, Bool as BoolOf, Text as TextOf, Enumeration}
use Rattle.message_types.specs.declared.messages.Types.{Types}
use Rattle.schema.specs.declared.value.Item.TheOpen.{Number, Truth, Text}
use Rattle.scalar_texts.specs.ScalarTexts.{IsScalarText, IsScalarTextFault}
use Rattle.scalar_texts.specs.declared.fault.ScalarFault.TheVariants.{BadText, BadNumber, OutOfRange, BadEnum, NotUtf8}

-- an enum with two values of one number, and one whose name looks like a number
abbrev pub colours : Types
colours = record {
  messages = [];
  enums = record {
    name = codes "Colour";
    values =
        record { name = codes "NONE"; number = pos 0 }
        ∷ record { name = codes "RED"; number = pos 1 }
        ∷ record { name = codes "SCARLET"; number = pos 1 }
        ∷ record { name = codes "7"; number = pos 3 }
        ∷ [];
  } ∷ [];
}

-- the id of an enum by its place
abbrev pub id_at : ℕ → EnumId
id_at n = record { 0 = n }

-- numbers: the exact integer counts, and the range of the kind
pub record NumberExamplesHold : Type 0 where
  pub minus_zero : IsScalarText colours Uint32 (codes "-0") (Number (pos 0))
  pub larger : IsScalarText colours Int32 (codes "1e2") (Number (pos 100))
  pub point_and_exponent : IsScalarText colours Sint64 (codes "1200.0E-2") (Number (pos 12))
  pub least_of_int32 : IsScalarText colours Int32 (codes "-2147483648") (Number (negsuc (2 ^ 31 - 1)))
  pub past_int32 : IsScalarTextFault colours Int32 (codes "2147483648") OutOfRange
  pub in_uint32 : IsScalarText colours Uint32 (codes "2147483648") (Number (pos (2 ^ 31)))
  pub below_uint32 : IsScalarTextFault colours Uint32 (codes "-1") OutOfRange
  pub greatest_of_uint64 : IsScalarText colours Uint64 (codes "18446744073709551615") (Number (pos (2 ^ 64 - 1)))
  pub past_uint64 : IsScalarTextFault colours Uint64 (codes "18446744073709551616") OutOfRange
  pub one_and_a_half : IsScalarTextFault colours Int32 (codes "1.5") BadNumber
  pub half : IsScalarTextFault colours Int32 (codes "0.5") BadNumber
  pub word : IsScalarTextFault colours Int32 (codes "red") BadNumber

-- bools, strings, and enums: a name is one before it is a number
pub record OtherKindExamplesHold : Type 0 where
  pub truth : IsScalarText colours BoolOf (codes "true") (Truth true)
  pub falsehood : IsScalarText colours BoolOf (codes "false") (Truth false)
  pub capital : IsScalarTextFault colours BoolOf (codes "True") BadText
  pub digit : IsScalarTextFault colours BoolOf (codes "1") BadText
  pub text : IsScalarText colours TextOf (codes "1.5") (Text (codes "1.5"))
  pub lone_byte : IsScalarTextFault colours TextOf (255 ∷ []) NotUtf8
  pub name : IsScalarText colours (Enumeration (id_at 0)) (codes "SCARLET") (Number (pos 1))
  pub name_that_looks_like_a_number : IsScalarText colours (Enumeration (id_at 0)) (codes "7") (Number (pos 3))
  pub number : IsScalarText colours (Enumeration (id_at 0)) (codes "7.0") (Number (pos 7))
  pub no_value : IsScalarTextFault colours (Enumeration (id_at 0)) (codes "red") BadEnum
  pub fraction : IsScalarTextFault colours (Enumeration (id_at 0)) (codes "1.5") BadNumber
  pub past_int32 : IsScalarTextFault colours (Enumeration (id_at 0)) (codes "2147483648") OutOfRange
