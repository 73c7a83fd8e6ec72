-- Which tokens a builder has taken, and what it answers.
use Rattle.std.specs.Prelude.{◌≡◌, ◌++◌, ◌∷◌, ℕ, List, [], length, Option, Some, None, Result, Ok, Err, ⊤}
use Rattle.json_events.specs.JsonTree.{Mark}
use Rattle.json_meanings.specs.FieldFaults.{IsFirstFault}
use Rattle.json_meanings.specs.JsonDenotes.{alone, spot_of}
use Rattle.json_meanings.specs.JsonScalars.{Schema}
use Rattle.json_meanings.specs.ReadingSpots.{Filled, Spot, part, whole}
use Rattle.json_meanings.specs.ReadingTurns.{Levels, Stands, has_ended}
use Rattle.json_meanings.specs.declared.fault.FieldKind.{FieldKind}
use Rattle.message_types.specs.declared.messages.TypeId.{TypeId}
use Rattle.protojson_read.specs.MessageSeen.{form_seen}
use Rattle.protojson_read.specs.TurnsSeen.{levels_seen}
use Rattle.protojson_read.specs.declared.builder.Builder.{Builder}
use Rattle.protojson_read.specs.declared.builder.State.{State}
use Rattle.protojson_read.specs.declared.builder.State.TheVariants.{Open, Ended, Refused}
use Rattle.protojson_read.specs.declared.fault.FieldFault.{FieldFault}
use Rattle.protojson_read.specs.declared.fault.FieldFault.TheVariants.{At, NoMemory}
use Rattle.protojson_read.specs.declared.partial_message.FieldForm.{FieldForm}
use Rattle.protojson_read.specs.declared.refusal.Refusal.{Refusal}
use Rattle.protojson_read.specs.declared.refusal.Refusal.TheVariants as refusals
use Rattle.schema.specs.declared.value.Value.{Value}

-- the spot of a message of a type, or of one field
abbrev pub root_spot : TypeId → Option FieldForm → Spot
root_spot id None = whole 100 id
root_spot id (Some f) = part 99 (form_seen f)

-- the value that has ended
pub record HasCome (l : Levels) (root : Spot) (v : Value) : Type 0 where
  pub filled : Filled
  pub ended : l.turn ≡ has_ended filled
  pub value_is : v ≡ alone root filled

-- the value has not ended
abbrev pub IsUnended : Levels → Type 0
IsUnended l = (x : Filled) → l.turn ≡ has_ended x → ⊥

-- what is kept of what is open, at a root
abbrev pub Keeps : Option FieldForm → State → Levels → Type 0
Keeps field (Open m) l = (levels_seen m ≡ l) × IsUnended l
Keeps field (Ended v) l = (id : TypeId) → HasCome l (root_spot id field) v
Keeps field (Refused f) l = ⊥

-- what is kept behind a token, or its fault; out of memory is free
abbrev pub KeepsNext : Option FieldForm → Result State Refusal → Result Levels FieldKind → Type 0
KeepsNext field (Ok s) (Ok l) = Keeps field s l
KeepsNext field (Err (refusals.Fault k)) (Err e) = k ≡ e
KeepsNext field (Err refusals.NoMemory) r = ⊤
KeepsNext field _ _ = ⊥

-- the state is that of a builder which took these tokens, without a fault
pub record IsBehind (field : Option FieldForm) (s : State) (c : Schema) (id : TypeId) (n : Option ℕ) (ts : List Mark)
    : Type 0 where
  pub levels : Levels
  pub root : root_spot id field ≡ spot_of c id n
  pub stands : Stands c id n levels ts
  pub keeps : Keeps field s levels

-- the tokens have been taken as a message of a type, or as its one field, without a fault, and this place is added to
-- the places of faults
pub record Reads (b : Builder) (c : Schema) (id : TypeId) (n : Option ℕ) (place : ℕ) (ts : List Mark) : Type 0 where
  pub placed : b.place ≡ place
  pub behind : IsBehind b.part b.state c id n ts

-- the fault of a token, which begins at a place, behind these; out of memory is free
abbrev pub IsTokenFault : FieldFault → ℕ → Schema → TypeId → Option ℕ → List Mark → Mark → Type 0
IsTokenFault (At p k) place c id n ts m = (p ≡ place) × IsFirstFault c id n (ts ++ m ∷ []) (length ts, k)
IsTokenFault NoMemory place c id n ts m = ⊤

-- why a token that begins at a place is refused
abbrev pub fault_by : ℕ → Refusal → FieldFault
fault_by place (refusals.Fault k) = At place k
fault_by place refusals.NoMemory = NoMemory

-- a value is kept
abbrev pub HoldsValue : State → Type 0
HoldsValue (Open l) = ⊥
HoldsValue (Ended v) = ⊤
HoldsValue (Refused f) = ⊥

-- the value has ended
abbrev pub HasEnded : Builder → Type 0
HasEnded b = HoldsValue b.state

-- the fault that is kept
abbrev pub kept_fault : State → Option FieldFault
kept_fault (Open l) = None
kept_fault (Ended v) = None
kept_fault (Refused f) = Some f

-- the fault with which a token was refused
abbrev pub refusal_of : Builder → Option FieldFault
refusal_of b = kept_fault b.state
