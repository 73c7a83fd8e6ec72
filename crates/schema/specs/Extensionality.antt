-- Values and maps are what they hold: two that answer alike are one.
use Rattle.std.specs.Prelude.{◌≡◌, ℕ}
use Rattle.schema.specs.Pairs.{entries_of, item_at, KeysRise}
use Rattle.schema.specs.Validity.{IsValid}
use Rattle.schema.specs.Value.{RiseFrom, slot_at, slots_of}
use Rattle.schema.specs.declared.key.Key.{Key}
use Rattle.schema.specs.declared.value.Pairs.{Pairs}
use Rattle.schema.specs.declared.value.Value.{Value}
use Rattle.message_types.specs.declared.messages.TypeId.{TypeId}
use Rattle.message_types.specs.declared.messages.Types.{Types}

-- values whose numbers rise and which have the same slot at every number are the same
abbrev pub RisingValuesAreTheirSlots : Type 0
RisingValuesAreTheirSlots = (v w : Value) → RiseFrom 0 (slots_of v) → RiseFrom 0 (slots_of w)
    → ((n : ℕ) → slot_at v n ≡ slot_at w n) → v ≡ w

-- valid values of a type that have the same slot at every number are the same
abbrev pub ValidValuesAreTheirSlots : Type 0
ValidValuesAreTheirSlots = (types : Types) (id : TypeId) (v w : Value) → IsValid types id v → IsValid types id w
    → ((n : ℕ) → slot_at v n ≡ slot_at w n) → v ≡ w

-- maps whose keys rise and which have the same item at every key are the same
abbrev pub RisingPairsAreTheirItems : Type 0
RisingPairsAreTheirItems = (ps qs : Pairs) → KeysRise (entries_of ps) → KeysRise (entries_of qs)
    → ((k : Key) → item_at (entries_of ps) k ≡ item_at (entries_of qs) k) → ps ≡ qs
