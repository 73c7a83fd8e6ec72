-- The first fault of a list of tokens, as a message of a type or as one field of it.
use Rattle.std.specs.Prelude.{◌≡◌, ◌<◌, ℕ, List, [], ◌++◌, length, Option, Ok, Err}
use Rattle.message_types.specs.declared.messages.TypeId.{TypeId}
use Rattle.schema.specs.declared.value.Value.{Value}
use Rattle.json_events.specs.JsonTree.{Json, Mark, tokens_in, with_value}
use Rattle.json_meanings.specs.FaultPlaces.{Fault}
use Rattle.json_meanings.specs.JsonDenotes.{reading}
use Rattle.json_meanings.specs.JsonScalars.{Schema}

-- the tokens of a tree: its marks but for commas and colons
abbrev pub tree_tokens : Json → List Mark
tree_tokens j = tokens_in (with_value j [])

-- the tokens begin those of a tree
abbrev pub BeginsTree : List Mark → Type 0
BeginsTree ts = (j : Json) × (more : List Mark) × (tree_tokens j ≡ ts ++ more)

-- the tokens begin those of a tree that means a value
abbrev pub BeginsValue : Schema → TypeId → Option ℕ → List Mark → Type 0
BeginsValue c id part ts =
    (j : Json) × (more : List Mark) × (v : Value) × (tree_tokens j ≡ ts ++ more) × (reading c id part j ≡ Ok v)

-- one of the tokens has the first fault of a tree whose tokens begin with these
abbrev pub IsFirstFault : Schema → TypeId → Option ℕ → List Mark → Fault → Type 0
IsFirstFault c id part ts f =
    (f.0 < length ts)
    × ((j : Json) × (more : List Mark) × (tree_tokens j ≡ ts ++ more) × (reading c id part j ≡ Err f))
