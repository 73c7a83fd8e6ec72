-- Bytes of a message, and behind them others that undo nothing, decode to the merge of both values.
use Rattle.std.proofs.Common.{◌≡◌, ◌≢◌, ◌++◌, ℕ, zero, suc, List, Option, None, arith, ap, ap₂, sym, ◌∙◌}
use Rattle.message_types.specs.Types.{field_in, fields_of}
use Rattle.schema.specs.declared.value.Slot.{Slot}
use Rattle.schema.specs.declared.value.Value.{Value}
use Rattle.message_types.specs.declared.messages.TypeId.{TypeId}
use Rattle.message_types.specs.declared.messages.Types.{Types}
use Rattle.wire_format.specs.Decoding.{DecodesTo}
use Rattle.wire_format.specs.FieldValues.{slot_of, gather, meaning_within}
use Rattle.wire_format.specs.GoodBytes.{AreGood}
use Rattle.wire_format.specs.KeptFields.{KeepsAll}
use Rattle.wire_format.specs.MergedValues.{merged_within, merged}
use Rattle.wire_format.specs.WireFaults.{Fault, field_fault, first_fault}
use Rattle.wire_records.specs.WireRecord.{Record, records}
use Rattle.wire_format.proofs.merging.FaultPlaceLemmas.{fault_moved}
use Rattle.wire_format.proofs.decoding.GoodLemmas.{good_within}
use Rattle.wire_records.specs.JoinedRecords.{records_joined}
use Rattle.wire_format.proofs.merging.MergeSlotLemmas.{Merges}
use Rattle.wire_format.proofs.merging.MergeMessageLemmas.{joined_fault, slots_merge}

module _ (types : Types) where
  -- a message whose parts merge does
  message_merges : (k : ℕ) → Merges k types → (id : TypeId) (a b : List ℕ) → AreGood (suc k) types (fields_of types id) a → AreGood (suc k) types (fields_of types id) b → KeepsAll (suc k) types (fields_of types id) b
      → (meaning_within (suc k) types).message (fields_of types id) (a ++ b)
      ≡ merged_within (suc k) types id ((meaning_within (suc k) types).message (fields_of types id) a) ((meaning_within (suc k) types).message (fields_of types id) b)
  unfolding meaning_within merged_within AreGood KeepsAll
  message_merges k merges id a b g h keep =
      let fields = fields_of types id in
      ap (λ (rs : List Record). record { fields = gather (slot_of (meaning_within k types) types fields rs) fields }) (records_joined k 0 a b g.0)
      ∙ ap (λ (ds : List (ℕ × Slot)). record { fields = ds }) (slots_merge k types merges fields (records k 0 a) (records k 0 b) g.1 h.1 keep)

  -- in so many levels
  merges_within : (k : ℕ) → Merges k types
  unfolding AreGood
  merges_within zero = record { message = λ id a b g h keep. absurd g }
  merges_within (suc k) = record { message = λ id a b g h keep. message_merges k (merges_within k) id a b g h keep }

  -- bytes, and behind them others that undo nothing, decode to the merge of both values
  pub merged_bytes : (id : TypeId) (a b : List ℕ) (v w : Value) → DecodesTo types id a v → DecodesTo types id b w → KeepsAll 100 types (fields_of types id) b → DecodesTo types id (a ++ b) (merged types id v w)
  unfolding first_fault AreGood
  merged_bytes id a b v w d e keep =
      let fields = fields_of types id in
      let some : ◌≢◌ {A = ℕ} 100 0 = λ z. absurd (omega (arith, z)) in
      let before : AreGood 100 types fields a = (good_within 100 types).good some fields 0 a d.0 in
      let behind : AreGood 100 types fields b = (good_within 100 types).good some fields 0 b e.0 in
      let check : ℕ → Record → Option Fault = λ at r. field_fault (first_fault 99 types) types 99 (field_in fields r.number) at r in
      let none : (place : ℕ) → first_fault 100 types fields place b ≡ None = λ place. (fault_moved 100 types).moved fields 0 place b e.0 in
      let same = (merges_within 100).message id a b before behind keep in
      (joined_fault check 99 b none 0 0 a before.0 d.0, ap₂ (merged types id) d.1 e.1 ∙ sym same)
