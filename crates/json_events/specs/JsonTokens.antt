-- What a reader stands for: the bytes that it took and the tokens that it gave.
use Rattle.std.specs.Prelude.{◌≡◌, ℕ, ◌+◌, ◌-◌, ◌<◌, ◌≤◌, ◌↔◌, List, [], ◌∷◌, ◌++◌, length, take, true, Option, Some, None, ⊤}
use Rattle.std.specs.List.{AllByRecursion}
use Rattle.json_events.specs.declared.state.Bracket.{Bracket}
use Rattle.json_events.specs.declared.state.Want.{Want}
use Rattle.json_events.specs.declared.state.Want.TheVariants as want
use Rattle.json_events.specs.JsonTree.{Json, Mark, opens, closes, comma, colon, key, text, digits, name}
use Rattle.json_events.specs.JsonText.{Span, IsTextWith}
use Rattle.json_events.specs.WordSteps.{Word, is_number}
use Rattle.json_events.specs.WordStates.{IsOpen}
use Rattle.json_events.specs.NestingSteps.{Place}
use Rattle.json_events.specs.ReadingSteps.{Config, reads}

-- some text begins with these bytes, and its tokens with these
abbrev pub BeginsWith : List ℕ → List Span → Type 0
BeginsWith bytes ts = (s : List ℕ) × (others : List Span) × (j : Json) × IsTextWith j (bytes ++ s) (ts ++ others)

-- these are no text whose tokens begin with these
abbrev pub IsNoTextWith : List ℕ → List Span → Type 0
IsNoTextWith bytes ts = (j : Json) (others : List Span) → IsTextWith j bytes (ts ++ others) → ⊥

-- a mark that ends there has not ended within the first bytes, so many: a number has once a further byte
-- follows it
abbrev pub EndsPast : ℕ → Mark → ℕ → Type 0
EndsPast n (opens b) to = n < to
EndsPast n (closes b) to = n < to
EndsPast n comma to = n < to
EndsPast n colon to = n < to
EndsPast n (key s) to = n < to
EndsPast n (text s) to = n < to
EndsPast n (digits s) to = n ≤ to
EndsPast n (name s) to = n < to

-- the token has not ended within the first bytes, so many
abbrev pub HasNotEnded : ℕ → Span → Type 0
HasNotEnded n t = EndsPast n t.mark t.to

-- the token has ended within the first bytes, so many
abbrev pub HasEnded : ℕ → Span → Type 0
HasEnded n t = HasNotEnded n t → ⊥

-- of each text that begins with the bytes, and whose tokens begin with these, no other token has ended in them
abbrev pub NoOtherHasEnded : List ℕ → List Span → Type 0
NoOtherHasEnded bytes ts = (s : List ℕ) (others : List Span) (j : Json) → IsTextWith j (bytes ++ s) (ts ++ others)
    → AllByRecursion (HasNotEnded (length bytes)) others

-- the tokens of bytes, which begin a text: its tokens begin with these, each of them has ended in the bytes, and
-- no other has
pub record AreTokensOf (bytes : List ℕ) (ts : List Span) : Type 0 where
  pub begins : BeginsWith bytes ts
  pub ended : AllByRecursion (HasEnded (length bytes)) ts
  pub no_other : NoOtherHasEnded bytes ts

-- each of the tokens has ended in the first of the bytes, so many, which begin a text whose tokens begin with these
pub record HaveEndedIn (bytes : List ℕ) (ts : List Span) : Type 0 where
  pub count : ℕ
  pub within : count ≤ length bytes
  pub begins : BeginsWith (take count bytes) ts
  pub ended : AllByRecursion (HasEnded count) ts

-- the tokens stand one behind another, from an offset on, and none is empty
abbrev pub StandInOrder : ℕ → List Span → Type 0
StandInOrder at [] = ⊤
StandInOrder at (t ∷ ts) = (at ≤ t.from) × (t.from < t.to) × StandInOrder t.to ts

-- a number that ends where so many bytes end: `feed` gives it with its next byte shown, which is not taken, and
-- `finish` where nothing follows
abbrev pub IsPending : ℕ → Span → Type 0
IsPending n t = (s : List ℕ) × (t.mark ≡ digits s) × (t.to ≡ n)

-- how many brackets are open behind a mark, where so many were before it
abbrev pub level_behind : Mark → ℕ → ℕ
level_behind (opens b) n = n + 1
level_behind (closes b) n = n - 1
level_behind comma n = n
level_behind colon n = n
level_behind (key s) n = n
level_behind (text s) n = n
level_behind (digits s) n = n
level_behind (name s) n = n

-- how many are open behind the tokens
abbrev pub level_from : ℕ → List Span → ℕ
level_from n [] = n
level_from n (t ∷ ts) = level_from (level_behind t.mark n) ts

-- how many brackets are open behind all tokens
abbrev pub level : List Span → ℕ
level ts = level_from 0 ts

-- how many are open at a place
abbrev pub level_in : Want → List Bracket → ℕ
level_in want.Value st = length st
level_in want.FirstItem st = length st + 1
level_in want.FirstKey st = length st + 1
level_in want.Key st = length st + 1
level_in want.Colon st = length st + 1
level_in want.After st = length st

-- the place after a number is the one after a value
abbrev pub IsSound : Option Word → Place → Type 0
IsSound None p = ⊤
IsSound (Some w) p = IsOpen w.state × (is_number w.state ≡ true → p.want ≡ want.After)

-- the configuration, where there is one, is one that some bytes complete
abbrev pub IsValid : Option Config → Type 0
IsValid None = ⊤
IsValid (Some c) = IsSound c.word c.place

-- the token ends within the first bytes, so many
abbrev pub IsWithin : ℕ → Span → Type 0
IsWithin n t = t.to ≤ n

-- it has counted the bytes, it keeps the brackets that the tokens leave open, and the tokens end within
-- the bytes
abbrev pub IsCounted : Option Config → List ℕ → List Span → Type 0
IsCounted None bytes ts = ⊤
IsCounted (Some c) bytes ts = (c.at ≡ length bytes) × (level_in c.place.want c.place.around ≡ level ts) × AllByRecursion (IsWithin (length bytes)) ts

-- The bytes came and the tokens were given: what follows completes them to a text exactly where the
-- machine reads it from there.
pub record Awaits (r : Option Config) (bytes : List ℕ) (ts : List Span) : Type 0 where
  pub completes : (s : List ℕ) (others : List Span) → ((j : Json) × IsTextWith j (bytes ++ s) (ts ++ others)) ↔ (reads r s ≡ Some others)
  pub valid : IsValid r
  pub counted : IsCounted r bytes ts

-- from what the one stood for, the other stands for these bytes and tokens more
abbrev pub AwaitsOn : Option Config → Option Config → List ℕ → List Span → Type 0
AwaitsOn old new bytes given = (b : List ℕ) (ts : List Span) → Awaits old b ts → Awaits new (b ++ bytes) (ts ++ given)

-- how many brackets may be open
abbrev pub level_limit : ℕ
level_limit = 208
