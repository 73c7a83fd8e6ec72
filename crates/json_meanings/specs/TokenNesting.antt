-- How deep the brackets of tokens nest.
use Rattle.std.specs.Prelude.{◌≡◌, ◌≤◌, ℕ, List, [], ◌∷◌, length, Option}
use Rattle.message_types.specs.declared.messages.TypeId.{TypeId}
use Rattle.json_events.specs.JsonText.{Span, marks_of}
use Rattle.json_events.specs.JsonTokens.{level, level_behind}
use Rattle.json_events.specs.JsonTree.{Mark}
use Rattle.json_meanings.specs.FieldFaults.{BeginsValue}
use Rattle.json_meanings.specs.JsonScalars.{Schema}
use Rattle.json_meanings.specs.ReadingTurns.{Levels, Stands}

-- how many brackets are open behind the tokens, where so many were before them
abbrev pub nesting_from : ℕ → List Mark → ℕ
nesting_from n [] = n
nesting_from n (m ∷ ms) = nesting_from (level_behind m n) ms

-- how many brackets are open behind the tokens: as many as they open, less those that they close
abbrev pub nesting : List Mark → ℕ
nesting ms = nesting_from 0 ms

-- how deep the brackets of an accepted value nest at most: 100 levels, each an object and an array or a map in it
abbrev pub nesting_limit : ℕ
nesting_limit = 200

-- what holds of the brackets of tokens
pub record NestingLawsHold (c : Schema) (id : TypeId) (n : Option ℕ) : Type 0 where
  -- those that begin an accepted value
  pub begins : (ts : List Mark) → BeginsValue c id n ts → nesting ts ≤ nesting_limit
  -- those that have been taken without a fault
  pub stands : (l : Levels) (ts : List Mark) → Stands c id n l ts → nesting ts ≤ nesting_limit
  -- as many are open as there are spots around
  pub around : (l : Levels) (ts : List Mark) → Stands c id n l ts → nesting ts ≡ length l.around
  -- and so they are counted in a text
  pub counted : (ts : List Span) → level ts ≡ nesting (marks_of ts)
