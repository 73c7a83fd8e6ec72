-- JSON values as trees (RFC 8259, sections 3 to 7), and the marks (brackets, commas, colons, literal names,
-- numbers, strings) of which a text is made.
use Rattle.std.specs.Prelude.{ℕ, List, [], ◌∷◌}
use Rattle.json_events.specs.declared.state.Bracket.{Bracket}
use Rattle.json_events.specs.declared.state.Bracket.TheVariants.{Array, Object}
use Rattle.json_events.specs.declared.state.Name.{Name}

mutual
  -- a number keeps its spelling, a string is what it stands for, an object keeps its pairs in order
  pub data Json : Type 0 where
    literal : Name → Json
    number : List ℕ → Json
    string : List ℕ → Json
    array : Items → Json
    object : Pairs → Json

  pub data Items : Type 0 where
    no_items : Items
    item : Json → Items → Items

  pub data Pairs : Type 0 where
    no_pairs : Pairs
    pair : List ℕ → Json → Pairs → Pairs

-- what stands between white space
pub data Mark : Type 0 where
  opens : Bracket → Mark
  closes : Bracket → Mark
  comma : Mark
  colon : Mark
  key : List ℕ → Mark
  text : List ℕ → Mark
  digits : List ℕ → Mark
  name : Name → Mark

abbrev mutual
  -- the marks of a value, and then these
  pub with_value : Json → List Mark → List Mark
  with_value (literal n) ms = name n ∷ ms
  with_value (number s) ms = digits s ∷ ms
  with_value (string s) ms = text s ∷ ms
  with_value (array js) ms = opens Array ∷ with_items js ms
  with_value (object ps) ms = opens Object ∷ with_pairs ps ms

  -- what stands after `[`
  pub with_items : Items → List Mark → List Mark
  with_items no_items ms = closes Array ∷ ms
  with_items (item j js) ms = with_value j (with_more_items js ms)

  pub with_more_items : Items → List Mark → List Mark
  with_more_items no_items ms = closes Array ∷ ms
  with_more_items (item j js) ms = comma ∷ with_value j (with_more_items js ms)

  -- what stands after `{`
  pub with_pairs : Pairs → List Mark → List Mark
  with_pairs no_pairs ms = closes Object ∷ ms
  with_pairs (pair k j ps) ms = key k ∷ colon ∷ with_value j (with_more_pairs ps ms)

  pub with_more_pairs : Pairs → List Mark → List Mark
  with_more_pairs no_pairs ms = closes Object ∷ ms
  with_more_pairs (pair k j ps) ms = comma ∷ key k ∷ colon ∷ with_value j (with_more_pairs ps ms)

-- the marks that are tokens: all but commas and colons
abbrev pub tokens_in : List Mark → List Mark
tokens_in [] = []
tokens_in (opens b ∷ ms) = opens b ∷ tokens_in ms
tokens_in (closes b ∷ ms) = closes b ∷ tokens_in ms
tokens_in (comma ∷ ms) = tokens_in ms
tokens_in (colon ∷ ms) = tokens_in ms
tokens_in (key s ∷ ms) = key s ∷ tokens_in ms
tokens_in (text s ∷ ms) = text s ∷ tokens_in ms
tokens_in (digits s ∷ ms) = digits s ∷ tokens_in ms
tokens_in (name n ∷ ms) = name n ∷ tokens_in ms
