-- Canonical bytes decode to their value.
use Rattle.std.proofs.Common.{◌≤◌, ◌<◌, ◌^◌, ℕ, zero, suc, List, length, arith, ap, sym}
use Rattle.message_types.specs.Types.{fields_of}
use Rattle.schema.specs.Validity.{valid_within, IsValid}
use Rattle.schema.specs.Value.{slots_of}
use Rattle.schema.specs.declared.value.Slot.{Slot}
use Rattle.schema.specs.declared.value.Value.{Value}
use Rattle.message_types.specs.declared.messages.TypeId.{TypeId}
use Rattle.message_types.specs.declared.messages.Types.{Types}
use Rattle.wire_format.specs.Laws.{HasSoundFields}
use Rattle.wire_format.specs.CanonicalBytes.{slots_bytes, canonical_within, canonical_bytes}
use Rattle.wire_format.specs.Decoding.{DecodesTo}
use Rattle.wire_format.specs.FieldValues.{meaning_within}
use Rattle.wire_format.specs.PayloadLengths.{HaveFieldLengths, HasLengths}
use Rattle.wire_format.specs.WireFaults.{first_fault}
use Rattle.wire_format.proofs.round_trip.FieldRecordLemmas.{eqb_apart}
use Rattle.wire_format.proofs.round_trip.ItemReadLemmas.{IsMessageBack, ReadsBack}
use Rattle.wire_format.proofs.round_trip.EntryReadLemmas.{entry_back}
use Rattle.wire_format.proofs.round_trip.LengthLemmas.{slots_short}
use Rattle.wire_format.proofs.round_trip.MessageReadLemmas.{fields_sound, slots_back}

module _ (types : Types) (sound : HasSoundFields types) where
  -- a message whose slots are read back is
  pub message_back : (k : ℕ) (sub : TypeId → Value → List ℕ) → ReadsBack k types sub → (id : TypeId) (v : Value) → (valid_within (suc k) types).message id v → HaveFieldLengths sub (fields_of types id) (slots_of v)
      → IsMessageBack (suc k) types id (slots_bytes sub (fields_of types id) (slots_of v)) v
  unfolding valid_within meaning_within first_fault
  message_back k sub deeper id v h l =
      let b = slots_back k types sub deeper (fields_of types id) (fields_sound types id sound) (slots_of v) h.rising h.slots h.oneofs l in
      record {
        some = eqb_apart (suc k) 0 (λ e. absurd (omega arith));
        value = ap (λ (es : List (ℕ × Slot)). record { fields = es }) b.value;
        good = b.good;
      }

  -- what is valid in so many levels is read back from the canonical bytes of as many, or more
  pub reads_back : (k n : ℕ) → k ≤ n → ReadsBack k types (canonical_within n types)
  unfolding valid_within canonical_within
  reads_back zero n l = record { message = λ id v h. absurd h; entry = λ s kind e h. absurd h }
  reads_back (suc k) zero l = absurd (omega arith)
  reads_back (suc k) (suc n) l = record {
    message = λ id v h g. message_back k (canonical_within n types) (reads_back k n (omega arith)) id v h (slots_short (canonical_within n types) (fields_of types id) (slots_of v) g);
    entry = λ s kind e h g. entry_back k types (canonical_within (suc n) types) (reads_back k (suc n) (omega arith)) s kind e h g;
  }

  -- the canonical bytes of a valid value decode to it
  pub round_trip : (id : TypeId) (v : Value) → IsValid types id v → HasLengths types id v → DecodesTo types id (canonical_bytes types id v) v
  unfolding canonical_bytes canonical_within
  round_trip id v h l =
      let b = message_back 99 (canonical_within 99 types) (reads_back 99 99 (omega arith)) id v h l in
      (b.good 0, sym b.value)

-- what is shorter than 2 ^ 64 bytes in all has lengths of 64 bits
pub short_lengths : (types : Types) (id : TypeId) (v : Value) → length (canonical_bytes types id v) < 2 ^ 64 → HasLengths types id v
unfolding canonical_bytes canonical_within
short_lengths types id v h = slots_short (canonical_within 99 types) (fields_of types id) (slots_of v) h
