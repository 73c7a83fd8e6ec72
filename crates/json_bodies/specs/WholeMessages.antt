-- What the bytes of a whole body mean as a message of a type, or as its one field (the ProtoJSON guide), or their first
-- fault: that of a token, or that they are no text of JSON (RFC 8259, section 2). The first byte of a body stands at a
-- place, and to it the offsets of faults are added, in 64 bits.
use Rattle.std.specs.Prelude.{◌≡◌, ◌↔◌, ◌⊎◌, ◌+◌, ◌<◌, ◌≤◌, ◌++◌, ◌∷◌, ℕ, List, length, take, Option, Result, Ok, Err, ⊤}
use Rattle.base.specs.Saturated.{saturated}
use Rattle.json_events.specs.JsonText.{BeginsText, IsTextOf, IsTextWith, Span, marks_of}
use Rattle.json_events.specs.JsonTokens.{AreTokensOf, HaveEndedIn}
use Rattle.json_events.specs.JsonTree.{Json}
use Rattle.json_meanings.specs.FaultPlaces.{Fault}
use Rattle.json_meanings.specs.FieldFaults.{IsFirstFault}
use Rattle.json_meanings.specs.JsonScalars.{Schema}
use Rattle.json_meanings.specs.TextMeanings.{BytesMean}
use Rattle.json_meanings.specs.declared.fault.FieldKind.{FieldKind}
use Rattle.message_types.specs.declared.messages.TypeId.{TypeId}
use Rattle.json_bodies.specs.declared.fault.BodyFault.{BodyFault}
use Rattle.json_bodies.specs.declared.fault.BodyFault.TheVariants.{Field, Syntax, NoMemory}
use Rattle.schema.specs.declared.value.Value.{Value}

-- the bytes are no text
abbrev pub IsNoText : List ℕ → Type 0
IsNoText bytes = (j : Json) → IsTextOf j bytes → ⊥

-- so many of the bytes are their longest front that begins a text
pub record IsLongestFront (bytes : List ℕ) (k : ℕ) : Type 0 where
  pub within : k ≤ length bytes
  pub begins : BeginsText (take k bytes)
  pub longest : k < length bytes → BeginsText (take (k + 1) bytes) → ⊥

-- the bytes are no text, and these are the tokens of the longest front, so many bytes, that begins one
pub record StopsAt (bytes : List ℕ) (ts : List Span) (k : ℕ) : Type 0 where
  pub no_text : IsNoText bytes
  pub front : IsLongestFront bytes k
  pub tokens : AreTokensOf (take k bytes) ts

-- these tokens are the first of a body: each has ended in a front of the bytes that begins a text, or the bytes are a
-- text, which ends its last number, and these are all of its tokens
abbrev pub AreBodyTokens : List ℕ → List Span → Type 0
AreBodyTokens bytes ts = HaveEndedIn bytes ts ⊎ ((j : Json) × IsTextWith j bytes ts)

-- one of the tokens of a body that stands at a place has their first fault, of this kind, and begins there
pub record IsFaultAt (c : Schema) (id : TypeId) (n : Option ℕ) (place : ℕ) (ts : List Span) (at : ℕ) (kind : FieldKind)
    : Type 0 where
  pub before : List Span
  pub token : Span
  pub behind : List Span
  pub split : ts ≡ before ++ token ∷ behind
  pub first : IsFirstFault c id n (marks_of ts) (length before, kind)
  pub at_is : at ≡ saturated (place + token.from)

-- none of the tokens has a fault
abbrev pub HasNoFault : Schema → TypeId → Option ℕ → List Span → Type 0
HasNoFault c id n ts = (f : Fault) → IsFirstFault c id n (marks_of ts) f → ⊥

-- the first fault of the bytes, of which the first stands at a place: that of a token; else that no text goes on so,
-- behind the longest front that begins one, whose tokens have no fault
abbrev pub IsBodyFault : Schema → TypeId → Option ℕ → ℕ → List ℕ → BodyFault → Type 0
IsBodyFault c id n place bytes (Field at kind) =
    (ts : List Span) × AreBodyTokens bytes ts × IsFaultAt c id n place ts at kind
IsBodyFault c id n place bytes (Syntax at) =
    (ts : List Span) × (k : ℕ) × (at ≡ saturated (place + k)) × StopsAt bytes ts k × HasNoFault c id n ts
IsBodyFault c id n place bytes NoMemory = ⊥

-- what is read of the bytes: the value that they mean, or their first fault; out of memory is free
abbrev pub IsBodyReading : Schema → TypeId → Option ℕ → ℕ → List ℕ → Result Value BodyFault → Type 0
IsBodyReading c id n place bytes (Ok v) = BytesMean c id n bytes v
IsBodyReading c id n place bytes (Err NoMemory) = ⊤
IsBodyReading c id n place bytes (Err fault) = IsBodyFault c id n place bytes fault

-- where memory was found, a value is answered exactly where the bytes mean it, and a fault exactly where they have it
pub record IsBodyAnswer (c : Schema) (id : TypeId) (n : Option ℕ) (place : ℕ) (bytes : List ℕ)
    (r : Result Value BodyFault) : Type 0 where
  pub value : (v : Value) → (r ≡ Ok v) ↔ BytesMean c id n bytes v
  pub fault : (f : BodyFault) → (r ≡ Err f) ↔ IsBodyFault c id n place bytes f

-- what holds of the outcomes of bytes
pub record HasOneOutcome (c : Schema) (id : TypeId) (n : Option ℕ) (place : ℕ) (bytes : List ℕ) : Type 0 where
  -- they mean at most one value
  pub value : (v w : Value) → BytesMean c id n bytes v → BytesMean c id n bytes w → v ≡ w
  -- or have at most one fault
  pub fault : (f g : BodyFault) → IsBodyFault c id n place bytes f → IsBodyFault c id n place bytes g → f ≡ g
  -- and not both
  pub apart : (v : Value) (f : BodyFault) → BytesMean c id n bytes v → IsBodyFault c id n place bytes f → ⊥

-- the bytes mean a value, or have a fault
abbrev pub HasOutcome : Schema → TypeId → Option ℕ → ℕ → List ℕ → Type 0
HasOutcome c id n place bytes =
    ((v : Value) × BytesMean c id n bytes v) ⊎ ((f : BodyFault) × IsBodyFault c id n place bytes f)
