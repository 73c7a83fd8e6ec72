-- Worked texts of well-known types (the ProtoJSON guide), and their messages.
use Rattle.std.specs.Prelude.{◌≡◌, ℕ, ℤ, pos, negsuc, List, [], ◌∷◌, codes, Option, Some, None, Result, Ok, Err}
use Rattle.known_types.specs.KnownTexts.{known_text, known_value, number_as_slot}
use Rattle.known_types.specs.declared.fault.TextFault.{TextFault}
use Rattle.known_types.specs.declared.fault.TextFault.TheVariants.{BadText, OutOfRange}
use Rattle.message_types.specs.declared.messages.Known.TheVariants.{Plain, Timestamp, Duration, FieldMask, Wrapper}
use Rattle.schema.specs.declared.value.Item.TheOpen.{Number, Text, One, Many}
use Rattle.schema.specs.declared.value.Item.{Item, roll-Item}
use Rattle.schema.specs.declared.value.Slot.{Slot, roll-Slot}
use Rattle.schema.specs.declared.value.Value.{Value}

-- a message of these slots
abbrev pub with_slots : List (ℕ × Slot) → Value
with_slots es = record { fields = es }

-- what is read as a message of these slots
abbrev pub is_message : List (ℕ × Slot) → Result Value TextFault
is_message es = Ok (with_slots es)

-- a path as an item
abbrev pub path : List ℕ → Item
path p = roll-Item (Text p)

-- texts that are read: a number that is 0 is absent, and so is a list without paths
pub record KnownReadingsHold : Type 0 where
  pub epoch : known_value Timestamp (codes "1970-01-01T00:00:00Z") ≡ is_message []
  pub before : known_value Timestamp (codes "1969-12-31T23:59:59.25Z")
      ≡ is_message ((1, number_as_slot (negsuc 0)) ∷ (2, number_as_slot (pos 250_000_000)) ∷ [])
  pub leap_day : known_value Timestamp (codes "2024-02-29T12:00:00+01:30")
      ≡ is_message ((1, number_as_slot (pos 1_709_202_600)) ∷ [])
  pub half : known_value Duration (codes "-0.5s") ≡ is_message ((2, number_as_slot (negsuc 499_999_999)) ∷ [])
  pub zero : known_value Duration (codes "-0s") ≡ is_message []
  pub paths : known_value FieldMask (codes "user.displayName,photo")
      ≡ is_message ((1, roll-Slot (Many (path (codes "user.display_name") ∷ path (codes "photo") ∷ []))) ∷ [])
  pub no_paths : known_value FieldMask [] ≡ is_message []

-- texts that are refused: out of range, of another form, and of another type
pub record KnownFaultsHold : Type 0 where
  pub year_0000 : known_value Timestamp (codes "0000-12-31T23:59:59-00:01") ≡ Err OutOfRange
  pub second_60 : known_value Timestamp (codes "2016-12-31T23:59:60Z") ≡ Err BadText
  pub far : known_value Duration (codes "315576000001s") ≡ Err OutOfRange
  pub minutes : known_value Duration (codes "1m") ≡ Err BadText
  pub underscore : known_value FieldMask (codes "user.display_name") ≡ Err BadText
  pub plain : known_value Plain (codes "1s") ≡ Err BadText
  pub wrapper : known_value Wrapper (codes "1s") ≡ Err BadText

-- messages with texts
pub record KnownShowingsHold : Type 0 where
  pub one_and_a_half : known_text Duration
      (with_slots ((1, number_as_slot (pos 1)) ∷ (2, number_as_slot (pos 500_000_000)) ∷ []))
      ≡ Some (codes "1.500s")
  pub below : known_text Duration (with_slots ((2, number_as_slot (negsuc 999)) ∷ [])) ≡ Some (codes "-0.000001s")
  pub zero : known_text Duration (with_slots []) ≡ Some (codes "0s")
  pub paths : known_text FieldMask
      (with_slots ((1, roll-Slot (Many (path (codes "user.display_name") ∷ path (codes "photo") ∷ []))) ∷ []))
      ≡ Some (codes "user.displayName,photo")
  pub no_paths : known_text FieldMask (with_slots []) ≡ Some []

-- messages without texts: of differing signs, out of range, with an empty path, and of another type
pub record UnprintableHold : Type 0 where
  pub signs : known_text Duration
      (with_slots ((1, number_as_slot (pos 1)) ∷ (2, number_as_slot (negsuc 0)) ∷ [])) ≡ None
  pub far_duration : known_text Duration (with_slots ((1, number_as_slot (pos 315_576_000_001)) ∷ [])) ≡ None
  pub far_instant : known_text Timestamp (with_slots ((1, number_as_slot (pos 253_402_300_800)) ∷ [])) ≡ None
  pub nanos_below : known_text Timestamp (with_slots ((2, number_as_slot (negsuc 0)) ∷ [])) ≡ None
  pub empty_path : known_text FieldMask (with_slots ((1, roll-Slot (Many (path [] ∷ []))) ∷ [])) ≡ None
  pub number_of_paths : known_text FieldMask (with_slots ((1, number_as_slot (pos 1)) ∷ [])) ≡ None
  pub plain : known_text Plain (with_slots []) ≡ None
