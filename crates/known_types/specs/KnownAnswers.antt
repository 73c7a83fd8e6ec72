-- What is answered where a text of a well-known type is read, and where one is written.
use Rattle.std.specs.Prelude.{◌≡◌, ◌++◌, ℕ, List, Option, Some, None, Result, Ok, Err}
use Rattle.message_types.specs.declared.messages.Known.{Known}
use Rattle.schema.specs.Validity.{IsInt32, IsInt64}
use Rattle.schema.specs.declared.value.Value.{Value}
use Rattle.time_texts.specs.declared.moment.Moment.{Moment}
use Rattle.known_types.specs.KnownTexts.{known_value, moment_of}
use Rattle.known_types.specs.declared.fault.TextFault.{TextFault}
use Rattle.known_types.specs.declared.fault.TextFault.TheVariants.{NoMemory}

-- the answer is the one that is wanted, or memory was not found
abbrev pub IsAnswer : Result Value TextFault → Result Value TextFault → Type 0
IsAnswer wanted (Err NoMemory) = Unit {0}
IsAnswer wanted answer = answer ≡ wanted

-- what is read of a text is what it is read as by definition, or memory was not found
abbrev pub IsKnownReading : Known → List ℕ → Result Value TextFault → Type 0
IsKnownReading known text answer = IsAnswer (known_value known text) answer

-- the text is there, and stands behind what was there
abbrev pub IsKnownShown : Option (List ℕ) → List ℕ → List ℕ → Type 0
IsKnownShown None old new = ⊥
IsKnownShown (Some text) old new = new ≡ old ++ text

-- what is found of a message that is a time: its numbers, unless one of them is too large for its kind
abbrev pub IsMomentFound : Value → Option Moment → Type 0
IsMomentFound v (Some m) = m ≡ moment_of v
IsMomentFound v None = IsInt64 (moment_of v).seconds → IsInt32 (moment_of v).nanos → ⊥
