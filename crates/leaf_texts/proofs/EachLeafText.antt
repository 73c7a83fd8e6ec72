-- Each text of a leaf means an item, or there is something wrong with it.
use Rattle.std.proofs.Common.{◌≡◌, ◌⊎◌, ℕ, List, Option, Some, None, Result, Ok, Err, refl, sym, subst, inl, inr}
use Rattle.json_meanings.specs.SpotTables.{known_of}
use Rattle.known_types.specs.KnownTexts.{known_value, masked, timed}
use Rattle.known_types.specs.declared.fault.TextFault.{TextFault}
use Rattle.known_types.specs.declared.fault.TextFault.TheVariants as text_faults
use Rattle.leaf_texts.specs.LeafTexts.{IsKnownText, IsKnownTextFault, IsLeafTextFault, IsMessageText, IsMessageTextFault, IsReadLeaf, scalar_of_wrapper, wrapper_of}
use Rattle.mask_texts.specs.MaskTexts.{mask_reading}
use Rattle.message_types.specs.declared.fields.Kind.{Kind}
use Rattle.message_types.specs.declared.fields.Kind.TheVariants.{One as OneOf, Message as MessageOf}
use Rattle.message_types.specs.declared.fields.Scalar.{Scalar}
use Rattle.message_types.specs.declared.messages.Known.{Known}
use Rattle.message_types.specs.declared.messages.Known.TheVariants.{Plain, Timestamp, Duration, FieldMask, Wrapper}
use Rattle.message_types.specs.declared.messages.TypeId.{TypeId}
use Rattle.message_types.specs.declared.messages.Types.{Types}
use Rattle.scalar_texts.specs.ScalarTexts.{IsRead, IsScalarText}
use Rattle.scalar_texts.specs.declared.fault.ScalarFault.{ScalarFault}
use Rattle.scalar_texts.specs.declared.fault.ScalarFault.TheVariants.{BadText, OutOfRange, NoMemory}
use Rattle.schema.specs.Layers.{ItemLayer}
use Rattle.schema.specs.declared.value.Item.TheOpen.{Message}
use Rattle.schema.specs.declared.value.Item.{out-roll-Item, roll-Item}
use Rattle.schema.specs.declared.value.Value.{Value}
use Rattle.time_texts.specs.DurationReading.{duration_reading}
use Rattle.time_texts.specs.TimestampReading.{timestamp_reading}
use Rattle.time_texts.specs.declared.fault.TimeFault.{TimeFault}
use Rattle.time_texts.specs.declared.fault.TimeFault.TheVariants as time_faults
use Rattle.time_texts.specs.declared.moment.Moment.{Moment}

-- ---- texts of timestamps, durations and field masks

time_memory : (r : Result Moment TimeFault) → timed r ≡ Err text_faults.NoMemory → ⊥
time_memory (Ok m) e = absurd cc
time_memory (Err time_faults.BadText) e = absurd cc
time_memory (Err time_faults.OutOfRange) e = absurd cc

mask_memory : (o : Option (List (List ℕ))) → masked o ≡ Err text_faults.NoMemory → ⊥
mask_memory (Some ps) e = absurd cc
mask_memory None e = absurd cc

-- no text means that memory was not found
known_memory : (known : Known) (text : List ℕ) → known_value known text ≡ Err text_faults.NoMemory → ⊥
known_memory Plain text e = absurd cc
known_memory Timestamp text e = time_memory (timestamp_reading text) e
known_memory Duration text e = time_memory (duration_reading text) e
known_memory FieldMask text e = mask_memory (mask_reading text) e
known_memory Wrapper text e = absurd cc

-- a text means an item as this type, or there is something wrong with it
abbrev IsKnownRead : Known → List ℕ → Type 0
IsKnownRead known text =
    ((i : ItemLayer) × IsKnownText known text i) ⊎ ((fault : ScalarFault) × IsKnownTextFault known text fault)

each_known : (known : Known) (text : List ℕ) → IsKnownRead known text
each_known known text = by_answer (known_value known text) refl
  where
    by_answer : (r : Result Value TextFault) → known_value known text ≡ r → IsKnownRead known text
    by_answer (Ok v) e = inl (Message v, (v, e, refl))
    by_answer (Err text_faults.BadText) e = inr (BadText, e)
    by_answer (Err text_faults.OutOfRange) e = inr (OutOfRange, e)
    by_answer (Err text_faults.NoMemory) e = absurd (known_memory known text e)

-- ---- texts of leaves, by what is known of those of scalars

module _ (read : (types : Types) (scalar : Scalar) (text : List ℕ) → IsRead types scalar text) (types : Types) where
  abbrev IsMessageRead : TypeId → Known → List ℕ → Type 0
  IsMessageRead id known text =
      ((i : ItemLayer) × IsMessageText types id known text i)
      ⊎ ((fault : ScalarFault) × IsMessageTextFault types id known text fault)

  each_message : (id : TypeId) (known : Known) (text : List ℕ) → IsMessageRead id known text
  each_message id Plain text = each_known Plain text
  each_message id Timestamp text = each_known Timestamp text
  each_message id Duration text = each_known Duration text
  each_message id FieldMask text = each_known FieldMask text
  each_message id Wrapper text = by_value (read types (scalar_of_wrapper types id) text)
    where
      by_value : IsRead types (scalar_of_wrapper types id) text → IsMessageRead id Wrapper text
      by_value (inl h) =
          inl (
            Message (wrapper_of (roll-Item h.0)),
            (
              roll-Item h.0,
              subst (IsScalarText types (scalar_of_wrapper types id) text) (sym (out-roll-Item h.0)) h.1,
              refl,
            ),
          )
      by_value (inr h) = inr h

  -- each text is read
  pub each_leaf : (kind : Kind) (text : List ℕ) → IsReadLeaf types kind text
  each_leaf (OneOf s) text = read types s text
  each_leaf (MessageOf id) text = each_message id (known_of types id) text

module _ (types : Types) where
  message_memory : (id : TypeId) (known : Known) (text : List ℕ) → IsMessageTextFault types id known text NoMemory → ⊥
  message_memory id Plain text h = h
  message_memory id Timestamp text h = h
  message_memory id Duration text h = h
  message_memory id FieldMask text h = h
  message_memory id Wrapper text h = h

  -- lack of memory is no fault of a text
  pub leaf_memory : (kind : Kind) (text : List ℕ) → IsLeafTextFault types kind text NoMemory → ⊥
  leaf_memory (OneOf s) text h = h
  leaf_memory (MessageOf id) text h = message_memory id (known_of types id) text h
