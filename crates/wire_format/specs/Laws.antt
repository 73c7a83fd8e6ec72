-- Laws of bytes and values.
use Rattle.std.specs.Prelude.{◌≡◌, ◌<◌, ◌^◌, ◌↔◌, ◌++◌, ℕ, List, Ok, length}
use Rattle.std.specs.List.{AllByRecursion}
use Rattle.base.specs.Bytes.{AreBytes}
use Rattle.schema.specs.Soundness.{IsSound, IsSoundField}
use Rattle.message_types.specs.Types.{fields_of}
use Rattle.schema.specs.Validity.{IsValid}
use Rattle.message_types.specs.declared.messages.MessageType.{MessageType}
use Rattle.message_types.specs.declared.messages.TypeId.{TypeId}
use Rattle.message_types.specs.declared.messages.Types.{Types}
use Rattle.schema.specs.declared.value.Value.{Value}
use Rattle.wire_format.specs.CanonicalBytes.{canonical_bytes}
use Rattle.wire_format.specs.Decoding.{DecodesTo, decoding}
use Rattle.wire_format.specs.KeptFields.{KeepsAll}
use Rattle.wire_format.specs.MergedValues.{merged}
use Rattle.wire_format.specs.PayloadLengths.{HasLengths}

-- bytes are one value of a type at most
abbrev pub HasOneValue : Type 0
HasOneValue = (types : Types) (id : TypeId) (bytes : List ℕ) (v w : Value) → DecodesTo types id bytes v → DecodesTo types id bytes w → v ≡ w

-- bytes that have no fault, and what their records say, are exactly what is decoded
abbrev pub DecodesWithoutFault : Type 0
DecodesWithoutFault = (types : Types) (id : TypeId) (bytes : List ℕ) (v : Value) → decoding types id bytes ≡ Ok v ↔ DecodesTo types id bytes v

-- each field of each message is sound. That is less than that the types are: fields of one message may have one
-- number or one name
abbrev pub HasSoundFields : Types → Type 0
HasSoundFields types = AllByRecursion (λ (m : MessageType). AllByRecursion (IsSoundField types) m.fields) types.messages

-- the fields of sound types are sound
abbrev pub SoundTypesHaveSoundFields : Type 0
SoundTypesHaveSoundFields = (types : Types) → IsSound types → HasSoundFields types

-- what bytes decode to is valid
abbrev pub DecodedValuesAreValid : Type 0
DecodedValuesAreValid = (types : Types) (id : TypeId) (bytes : List ℕ) (v : Value) → HasSoundFields types → AreBytes bytes → DecodesTo types id bytes v → IsValid types id v

-- the canonical bytes of a valid value decode to that value, where each length in them has 64 bits
abbrev pub CanonicalBytesDecode : Type 0
CanonicalBytesDecode = (types : Types) (id : TypeId) (v : Value) → HasSoundFields types → IsValid types id v → HasLengths types id v → DecodesTo types id (canonical_bytes types id v) v

-- so they do where they are fewer than 2 ^ 64 in all
abbrev pub ShortCanonicalBytesDecode : Type 0
ShortCanonicalBytesDecode = (types : Types) (id : TypeId) (v : Value) → HasSoundFields types → IsValid types id v → length (canonical_bytes types id v) < 2 ^ 64 → DecodesTo types id (canonical_bytes types id v) v

-- bytes, and behind them others that undo nothing that they set, decode to the merge of both values
abbrev pub JoinedBytesMerge : Type 0
JoinedBytesMerge = (types : Types) (id : TypeId) (a b : List ℕ) (v w : Value) → DecodesTo types id a v → DecodesTo types id b w → KeepsAll 100 types (fields_of types id) b → DecodesTo types id (a ++ b) (merged types id v w)

-- so they do where the canonical bytes of a valid value stand behind
abbrev pub CanonicalBytesMerge : Type 0
CanonicalBytesMerge = (types : Types) (id : TypeId) (bytes : List ℕ) (v w : Value) → HasSoundFields types → DecodesTo types id bytes v → IsValid types id w → HasLengths types id w → DecodesTo types id (bytes ++ canonical_bytes types id w) (merged types id v w)
