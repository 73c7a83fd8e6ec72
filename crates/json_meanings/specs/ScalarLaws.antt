-- What the definitions of scalars promise: the texts of numbers, and those of bytes.
use Rattle.std.specs.Prelude.{◌≡◌, ◌↔◌, ◌⊎◌, ℕ, ℤ, List, Ok, Err}
use Rattle.message_types.specs.declared.fields.Scalar.{Scalar}
use Rattle.schema.specs.Layers.{ItemLayer}
use Rattle.schema.specs.Validity.{IsScalarItem}
use Rattle.schema.specs.declared.value.Item.TheOpen.{Number}
use Rattle.json_events.specs.JsonNumbers.{DenotesInteger}
use Rattle.json_meanings.specs.JsonScalars.{in_range, number_as}
use Rattle.json_meanings.specs.declared.fault.FieldKind.{FieldKind}
use Rattle.json_meanings.specs.declared.fault.FieldKind.TheVariants.{BadNumber, OutOfRange}

-- a text denotes a number of the kind
abbrev pub DenotesNumberOf : Scalar → List ℕ → ItemLayer → Type 0
DenotesNumberOf s text i = (z : ℤ) × (i ≡ Number z) × DenotesInteger z text × IsScalarItem s (Number z)

-- a text denotes an integer that the kind does not have
abbrev pub DenotesOtherOf : Scalar → List ℕ → Type 0
DenotesOtherOf s text = (z : ℤ) × DenotesInteger z text × (IsScalarItem s (Number z) → ⊥)

-- a text is read as a number of a kind exactly where it denotes one, and else has the fault that says why not
pub record NumberLawsHold (s : Scalar) (text : List ℕ) : Type 0 where
  pub read : (i : ItemLayer) → (number_as s text ≡ Ok i) ↔ DenotesNumberOf s text i
  pub out_of_range : (number_as s text ≡ Err OutOfRange) ↔ DenotesOtherOf s text
  pub bad_number : (number_as s text ≡ Err BadNumber) ↔ ((z : ℤ) → DenotesInteger z text → ⊥)
  pub no_other : (k : FieldKind) → number_as s text ≡ Err k → (k ≡ BadNumber) ⊎ (k ≡ OutOfRange)

-- a number is read as one of a kind exactly where the kind has it
pub record RangeLawsHold (s : Scalar) (z : ℤ) : Type 0 where
  pub read : (i : ItemLayer) → (in_range s z ≡ Ok i) ↔ ((i ≡ Number z) × IsScalarItem s (Number z))
  pub refused : (k : FieldKind) → (in_range s z ≡ Err k) ↔ ((k ≡ OutOfRange) × (IsScalarItem s (Number z) → ⊥))
