-- The token with the first fault is the first such that the tokens up to it begin no accepted value.
use Rattle.std.specs.Prelude.{◌≡◌, ◌+◌, ◌++◌, ℕ, List, take, Option, Ok}
use Rattle.std.specs.Str.{IsUtf8}
use Rattle.message_types.specs.declared.messages.TypeId.{TypeId}
use Rattle.schema.specs.declared.value.Value.{Value}
use Rattle.json_events.specs.JsonText.{IsTextOf}
use Rattle.json_events.specs.JsonTree.{Json, Mark}
use Rattle.json_meanings.specs.FaultPlaces.{Fault}
use Rattle.json_meanings.specs.FieldFaults.{BeginsValue, tree_tokens}
use Rattle.json_meanings.specs.JsonDenotes.{reading}
use Rattle.json_meanings.specs.JsonScalars.{Schema}
use Rattle.json_meanings.specs.SpotTables.{known_of}
use Rattle.json_meanings.specs.TextTypes.{IsTextType}

-- each type that is written as a text has a lawful one, in UTF-8
abbrev pub HasTexts : Schema → Type 0
HasTexts c =
    (id : TypeId) → IsTextType (known_of c.types id)
    → (t : List ℕ) × (v : Value) × IsUtf8 t × (c.known (known_of c.types id) t ≡ Ok v)

-- the tokens begin those of a text whose tree means a value
abbrev pub BeginsValueText : Schema → TypeId → Option ℕ → List Mark → Type 0
BeginsValueText c id part ts =
    (j : Json) × (more : List Mark) × (v : Value) × (bytes : List ℕ) × (tree_tokens j ≡ ts ++ more)
    × (reading c id part j ≡ Ok v) × IsTextOf j bytes

-- the tokens before the one with the fault begin an accepted value, and those up to it begin none
pub record IsAtFirstToken (c : Schema) (id : TypeId) (n : Option ℕ) (ts : List Mark) (f : Fault) : Type 0 where
  pub before : BeginsValue c id n (take f.0 ts)
  pub there : BeginsValue c id n (take (f.0 + 1) ts) → ⊥
