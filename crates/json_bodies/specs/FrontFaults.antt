-- The first fault that bytes show before they end, whatever follows them: that of a token that has ended in them, or
-- that of a byte with which no text of JSON goes on (RFC 8259, section 2). The first byte stands at a place.
use Rattle.std.specs.Prelude.{◌≡◌, ◌↔◌, ◌⊎◌, ◌+◌, ◌<◌, ◌++◌, ℕ, List, length, Option, Result, Ok, Err, ⊤}
use Rattle.base.specs.Saturated.{saturated}
use Rattle.json_events.specs.JsonText.{Span}
use Rattle.json_events.specs.JsonTokens.{HaveEndedIn}
use Rattle.json_meanings.specs.JsonScalars.{Schema}
use Rattle.message_types.specs.declared.messages.TypeId.{TypeId}
use Rattle.json_bodies.specs.WholeMessages.{HasNoFault, IsBodyFault, IsFaultAt, StopsAt}
use Rattle.json_bodies.specs.declared.fault.BodyFault.{BodyFault}
use Rattle.json_bodies.specs.declared.fault.BodyFault.TheVariants.{Field, Syntax, NoMemory}

-- the first fault that the bytes show, which need not end there: that of a token that has ended in a front of them that
-- begins a text; else, where a byte follows their longest front that begins a text, whose tokens have no fault, that of
-- this byte
abbrev pub IsFrontFault : Schema → TypeId → Option ℕ → ℕ → List ℕ → BodyFault → Type 0
IsFrontFault c id n place bytes (Field at kind) =
    (ts : List Span) × HaveEndedIn bytes ts × IsFaultAt c id n place ts at kind
IsFrontFault c id n place bytes (Syntax at) =
    (ts : List Span) × (k : ℕ) × (at ≡ saturated (place + k)) × (k < length bytes) × StopsAt bytes ts k
    × HasNoFault c id n ts
IsFrontFault c id n place bytes NoMemory = ⊥

-- the bytes show no fault
abbrev pub ShowsNoFault : Schema → TypeId → Option ℕ → ℕ → List ℕ → Type 0
ShowsNoFault c id n place bytes = (f : BodyFault) → IsFrontFault c id n place bytes f → ⊥

-- what is read of the bytes: nothing where they show no fault, or the first that they show; out of memory is free
abbrev pub IsFrontReading : Schema → TypeId → Option ℕ → ℕ → List ℕ → Result (Unit {0}) BodyFault → Type 0
IsFrontReading c id n place bytes (Ok u) = ShowsNoFault c id n place bytes
IsFrontReading c id n place bytes (Err NoMemory) = ⊤
IsFrontReading c id n place bytes (Err fault) = IsFrontFault c id n place bytes fault

-- where memory was found, nothing is answered exactly where the bytes show no fault, and a fault exactly where they
-- show it
pub record IsFrontAnswer (c : Schema) (id : TypeId) (n : Option ℕ) (place : ℕ) (bytes : List ℕ)
    (r : Result (Unit {0}) BodyFault) : Type 0 where
  pub none : (r ≡ Ok tt) ↔ ShowsNoFault c id n place bytes
  pub fault : (f : BodyFault) → (r ≡ Err f) ↔ IsFrontFault c id n place bytes f

-- the bytes show a fault, or none
abbrev pub ShowsFaultOrNone : Schema → TypeId → Option ℕ → ℕ → List ℕ → Type 0
ShowsFaultOrNone c id n place bytes =
    ((f : BodyFault) × IsFrontFault c id n place bytes f) ⊎ ShowsNoFault c id n place bytes

-- a fault that bytes show stays, whatever follows
pub record FaultStays (c : Schema) (id : TypeId) (n : Option ℕ) (place : ℕ) (bytes more : List ℕ) (f : BodyFault)
    : Type 0 where
  -- all bytes show it
  pub shown : IsFrontFault c id n place (bytes ++ more) f
  -- and it is their fault, as that of a whole body
  pub whole : IsBodyFault c id n place (bytes ++ more) f
