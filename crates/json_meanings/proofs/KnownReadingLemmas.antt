-- What the texts of well-known types mean is valid (`readings_of_types_give_valid_values`).
use Rattle.std.proofs.Common.{◌≡◌, ap, ℕ, zero, suc, List, [], ◌∷◌, Ok, Err, Result}
use Rattle.std.specs.Prelude.{option_map, slice_get, unwrap_or}
use Rattle.std.specs.List.{AllByRecursion}
use Rattle.known_types.specs.declared.fault.TextFault.{TextFault}
use Rattle.message_types.specs.Types.{fields_of}
use Rattle.message_types.specs.declared.messages.MessageType.{MessageType}
use Rattle.message_types.specs.declared.messages.TypeId.{TypeId}
use Rattle.message_types.specs.declared.messages.Types.{Types}
use Rattle.schema.specs.Soundness.{HasKnownFields, IsSound, IsSoundMessage}
use Rattle.schema.specs.declared.value.Value.{Value}
use Rattle.json_meanings.specs.KnownReadings.{as_field}
use Rattle.json_meanings.specs.SpotTables.{known_in, known_of}

-- what is read as a field's value is read of the text
pub field_of_text : (r : Result Value TextFault) (v : Value) → as_field r ≡ Ok v → r ≡ Ok v
field_of_text (Ok w) v e = let same : w ≡ v = cc e in ap Ok same
field_of_text (Err f) v e = absurd cc

-- a sound type has the fields of the well-known type that it is
pub known_fields : (types : Types) → IsSound types → (id : TypeId)
    → HasKnownFields (known_of types id) (fields_of types id)
known_fields types sound id = by_place types.messages id.0 sound.messages
  where
    by_place : (ms : List MessageType) (n : ℕ) → AllByRecursion (IsSoundMessage types) ms
        → HasKnownFields (known_in (slice_get ms n))
        (unwrap_or (option_map (λ (m : MessageType). m.fields) (slice_get ms n)) [])
    by_place [] n h = tt
    by_place (m ∷ ms) zero h = h.0.known
    by_place (m ∷ ms) (suc n) h = by_place ms n h.1
