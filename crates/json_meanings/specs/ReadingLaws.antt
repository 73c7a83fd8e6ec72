-- What the definitions of reading promise of one another.
use Rattle.std.specs.Prelude.{◌≡◌, ◌⊎◌, ℕ, List, [], ◌∷◌, ◌++◌, length, Option, Ok, Err}
use Rattle.message_types.specs.declared.messages.TypeId.{TypeId}
use Rattle.schema.specs.declared.value.Value.{Value}
use Rattle.json_events.specs.JsonTree.{Json, Mark}
use Rattle.json_meanings.specs.FaultPlaces.{Fault}
use Rattle.json_meanings.specs.FieldFaults.{BeginsTree, BeginsValue, IsFirstFault, tree_tokens}
use Rattle.json_meanings.specs.JsonDenotes.{Denotes, alone, reading, spot_of}
use Rattle.json_meanings.specs.JsonScalars.{Schema}
use Rattle.json_meanings.specs.ReadingSpots.{Filled}
use Rattle.json_meanings.specs.ReadingTurns.{Levels, Stands, has_ended, step}
use Rattle.json_meanings.specs.declared.fault.FieldKind.{FieldKind}

-- a tree means a value, or its tokens have a first fault
abbrev pub MeansOrFails : Schema → TypeId → Option ℕ → Json → Type 0
MeansOrFails c id n j =
    ((v : Value) × Denotes c id n j v) ⊎ ((f : Fault) × IsFirstFault c id n (tree_tokens j) f)

-- what holds of the readings as a message of a type, or as one field of it
pub record ReadingLawsHold (c : Schema) (id : TypeId) (n : Option ℕ) : Type 0 where
  -- a tree means at most one value
  pub one_value : (j : Json) (v w : Value) → Denotes c id n j v → Denotes c id n j w → v ≡ w
  -- a tree means a value, or its tokens have a first fault
  pub value_or_fault : (j : Json) → MeansOrFails c id n j
  -- and not both; a fault stays, whatever follows
  pub fault_stays :
      (ts more : List Mark) (f : Fault) (j : Json)
      → IsFirstFault c id n ts f → tree_tokens j ≡ ts ++ more → reading c id n j ≡ Err f
  -- tokens have at most one first fault
  pub one_fault : (ts : List Mark) (f g : Fault) → IsFirstFault c id n ts f → IsFirstFault c id n ts g → f ≡ g
  -- tokens with a fault begin no accepted value
  pub begins_none : (ts : List Mark) (f : Fault) → IsFirstFault c id n ts f → BeginsValue c id n ts → ⊥
  -- tokens that have been taken have no fault
  pub no_fault : (l : Levels) (ts : List Mark) (f : Fault) → Stands c id n l ts → IsFirstFault c id n ts f → ⊥
  -- a token that is refused has the first fault
  pub refuses :
      (l : Levels) (ts : List Mark) (m : Mark) (k : FieldKind)
      → Stands c id n l ts → step c l m ≡ Err k → BeginsTree (ts ++ m ∷ [])
      → IsFirstFault c id n (ts ++ m ∷ []) (length ts, k)
  -- a token that is taken
  pub goes_on :
      (l next : Levels) (ts : List Mark) (m : Mark)
      → Stands c id n l ts → step c l m ≡ Ok next → Stands c id n next (ts ++ m ∷ [])
  -- a tree means the value that has ended with its tokens
  pub ends :
      (l : Levels) (x : Filled) (j : Json)
      → Stands c id n l (tree_tokens j) → l.turn ≡ has_ended x → Denotes c id n j (alone (spot_of c id n) x)
  -- with all tokens of a tree the value has ended
  pub whole : (l : Levels) (j : Json) → Stands c id n l (tree_tokens j) → (x : Filled) × (l.turn ≡ has_ended x)
  -- and not before: a tree has no token behind those with which it has ended
  pub over :
      (l : Levels) (x : Filled) (ts more : List Mark) (j : Json)
      → Stands c id n l ts → l.turn ≡ has_ended x → tree_tokens j ≡ ts ++ more → more ≡ []
