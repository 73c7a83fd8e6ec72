-- A value that is read is valid.
use Rattle.std.specs.Prelude.{◌≡◌, ℕ, suc, List, Ok}
use Rattle.std.specs.Str.{IsUtf8}
use Rattle.message_types.specs.declared.messages.TypeId.{TypeId}
use Rattle.schema.specs.Validity.{valid_within}
use Rattle.schema.specs.declared.value.Value.{Value}
use Rattle.json_events.specs.JsonTree.{Json, Items, Pairs, Mark, literal, number, string, array, object, no_items, item, no_pairs, pair, key, text}
use Rattle.json_meanings.specs.TextTypes.{IsTextType}
use Rattle.json_meanings.specs.JsonScalars.{Schema}
use Rattle.json_meanings.specs.SpotTables.{known_of}

abbrev mutual
  -- the strings of a tree are UTF-8
  pub HasUtf8 : Json → Type 0
  HasUtf8 (literal n) = Unit {0}
  HasUtf8 (number t) = Unit {0}
  HasUtf8 (string t) = IsUtf8 t
  HasUtf8 (array js) = ItemsHaveUtf8 js
  HasUtf8 (object ps) = PairsHaveUtf8 ps

  -- the strings of items are
  pub ItemsHaveUtf8 : Items → Type 0
  ItemsHaveUtf8 no_items = Unit {0}
  ItemsHaveUtf8 (item j js) = HasUtf8 j × ItemsHaveUtf8 js

  -- the strings of pairs are, keys among them
  pub PairsHaveUtf8 : Pairs → Type 0
  PairsHaveUtf8 no_pairs = Unit {0}
  PairsHaveUtf8 (pair t j ps) = IsUtf8 t × HasUtf8 j × PairsHaveUtf8 ps

-- the text of a token, if it has one, is UTF-8
abbrev pub MarkIsUtf8 : Mark → Type 0
MarkIsUtf8 (text t) = IsUtf8 t
MarkIsUtf8 (key t) = IsUtf8 t
MarkIsUtf8 _ = Unit {0}

-- what the text of a well-known type means is a valid message of that type, wherever one may stand
abbrev pub GivesValid : Schema → Type 0
GivesValid c =
    (id : TypeId) (t : List ℕ) (v : Value) (k : ℕ) → IsTextType (known_of c.types id)
    → c.known (known_of c.types id) t ≡ Ok v
    → (valid_within (suc k) c.types).message id v
