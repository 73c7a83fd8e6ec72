-- What is read of the text of a message. These definitions stand for the crate's own proofs: no public clause cites
-- them.
use Rattle.std.specs.Prelude.{ℕ, List, Result, Ok, Err}
use Rattle.leaf_texts.specs.LeafTexts.{IsKnownText, IsKnownTextFault, IsMessageText, IsMessageTextFault, IsWrapperText}
use Rattle.message_types.specs.declared.fields.Scalar.{Scalar}
use Rattle.message_types.specs.declared.messages.Known.{Known}
use Rattle.message_types.specs.declared.messages.TypeId.{TypeId}
use Rattle.message_types.specs.declared.messages.Types.{Types}
use Rattle.scalar_texts.specs.ScalarTexts.{IsScalarTextFault}
use Rattle.scalar_texts.specs.declared.fault.ScalarFault.{ScalarFault}
use Rattle.scalar_texts.specs.declared.fault.ScalarFault.TheVariants.{NoMemory}
use Rattle.schema.specs.declared.value.Item.{Item, out-Item}

-- as a timestamp, a duration or a field mask
abbrev pub IsKnownItem : Known → List ℕ → Result Item ScalarFault → Type 0
IsKnownItem known text (Ok item) = IsKnownText known text (out-Item item)
IsKnownItem known text (Err NoMemory) = Unit {0}
IsKnownItem known text (Err fault) = IsKnownTextFault known text fault

-- as a wrapper of a value of the scalar kind
abbrev pub IsWrapperItem : Types → Scalar → List ℕ → Result Item ScalarFault → Type 0
IsWrapperItem types scalar text (Ok item) = IsWrapperText types scalar text (out-Item item)
IsWrapperItem types scalar text (Err NoMemory) = Unit {0}
IsWrapperItem types scalar text (Err fault) = IsScalarTextFault types scalar text fault

-- as a message of a type that is this well-known one
abbrev pub IsMessageItem : Types → TypeId → Known → List ℕ → Result Item ScalarFault → Type 0
IsMessageItem types id known text (Ok item) = IsMessageText types id known text (out-Item item)
IsMessageItem types id known text (Err NoMemory) = Unit {0}
IsMessageItem types id known text (Err fault) = IsMessageTextFault types id known text fault
