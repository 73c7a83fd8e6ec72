-- How far a text has come, as the code keeps it: what its private parts promise.
use Rattle.std.specs.Prelude.{◌≡◌, ◌≢◌, ℕ, ◌+◌, List, [], ◌∷◌, Bool, true, false, Option, Some, None, ⊤}
use Rattle.std.specs.Option.{IfSome}
use Rattle.json_events.specs.declared.state.Bracket.{Bracket}
use Rattle.json_events.specs.declared.state.Kind.{Kind}
use Rattle.json_events.specs.declared.state.Kind.TheVariants.{Opening, Closing, Separator, Between, Naming, Scalar}
use Rattle.json_events.specs.declared.state.WordState.{WordState}
use Rattle.json_events.specs.declared.state.StringState.TheVariants.{Closed}
use Rattle.json_events.specs.declared.state.WordState.TheVariants.{Inside}
use Rattle.json_events.specs.declared.fault.JsonFault.{JsonFault}
use Rattle.json_events.specs.declared.fault.JsonFault.TheVariants as fault
use Rattle.json_events.specs.declared.token.Spanned.{Spanned}
use Rattle.json_events.specs.declared.step.Ended.{Ended}
use Rattle.json_events.specs.declared.step.Ended.TheVariants as ended
use Rattle.json_events.specs.declared.step.Step.{Step}
use Rattle.json_events.specs.declared.step.Step.TheVariants as step
use Rattle.json_events.specs.declared.progress.Begun.{Begun}
use Rattle.json_events.specs.declared.progress.Progress.{Progress}
use Rattle.json_events.specs.JsonTree.{opens}
use Rattle.json_events.specs.JsonText.{Span, with_token}
use Rattle.json_events.specs.WordSteps.{Word, begin, text_mark}
use Rattle.json_events.specs.HeldWords.{HoldsOnly}
use Rattle.json_events.specs.NestingSteps.{Place, next}
use Rattle.json_events.specs.NestingSpot.{spot_seen}
use Rattle.json_events.specs.ReadingSteps.{leaves, gap, failed, wants_key, begins}
use Rattle.json_events.specs.ReadingMoves.{Moved, lost, moved_at}
use Rattle.json_events.specs.JsonTokens.{level_in, level_limit}
use Rattle.base.specs.Saturated.{saturated}
use Rattle.json_events.specs.ReaderState.{Reading, config_at, KeepsLess}
use Rattle.json_events.specs.ReaderAnswers.{mark_seen}

-- the state of a word, where one has begun
abbrev pub state_of : Option Begun → Option WordState
state_of None = None
state_of (Some w) = Some w.state

-- whether it stands where a key is wanted
abbrev pub is_key_of : Option Begun → Bool
is_key_of None = false
is_key_of (Some w) = w.is_key

-- where it began
abbrev pub from_of : Option Begun → ℕ
from_of None = 0
from_of (Some w) = w.from

-- what a reader keeps, as the code has it
abbrev pub reading_of : Progress → Reading
reading_of p = record {
  word = state_of p.word;
  is_key = is_key_of p.word;
  held = p.held.items;
  place = spot_seen p.spot;
  from = from_of p.word;
  at = p.at;
}

-- the word that has begun, with what is kept of it
abbrev pub word_seen : Begun → List ℕ → Word
word_seen w held = record { state = w.state; is_key = w.is_key; held = held }

-- what is kept fits the word
abbrev pub HoldsReading : Reading → Type 0
HoldsReading r = HoldsOnly r.word r.held × KeepsLess r.word r.held r.from r.at

-- the word, where one has begun, began there
abbrev pub BeganAt : Reading → ℕ → Type 0
BeganAt r from = IfSome r.word (λ _. r.from ≡ from)

-- the tokens of a word that has ended so
abbrev pub ended_seen : Ended → Bool → List ℕ → ℕ → ℕ → Option (List Span)
ended_seen ended.No in_key held from to = None
ended_seen ended.Quiet in_key held from to = Some []
ended_seen ended.Text in_key held from to = Some (with_token (text_mark in_key held) from to [])
ended_seen (ended.Gives t) in_key held from to = Some (record { mark = mark_seen t; from = from; to = to } ∷ [])

-- only a string ends as a text
abbrev pub IsEndOf : Ended → WordState → Type 0
IsEndOf ended.No l = ⊤
IsEndOf ended.Quiet l = ⊤
IsEndOf ended.Text l = l ≡ Inside Closed
IsEndOf (ended.Gives t) l = ⊤

-- the token with exact offsets
abbrev pub given_seen : Option Spanned → ℕ → ℕ → List Span
given_seen None from to = []
given_seen (Some s) from to = record { mark = mark_seen s.token; from = from; to = to } ∷ []

-- where the word begins that a byte goes to
abbrev pub started : Option WordState → ℕ → ℕ → ℕ
started None from at = at
started (Some l) from at = from

-- the offset that is kept of it
abbrev pub word_start : Reading → ℕ
word_start r = started r.word r.from r.at

-- what a step leaves
abbrev pub step_seen : Step → Reading → ℕ → ℕ → Moved
step_seen step.Takes new from at = record { next = config_at new from (at + 1); took = true; given = [] }
step_seen (step.Gives s) new from at = record { next = config_at new from (at + 1); took = true; given = record { mark = mark_seen s.token; from = from; to = at + 1 } ∷ [] }
step_seen (step.Before s) new from at = record { next = config_at new from at; took = false; given = record { mark = mark_seen s.token; from = from; to = at } ∷ [] }

-- how many bytes were taken then
abbrev pub at_behind : Step → ℕ → ℕ
at_behind step.Takes at = saturated (at + 1)
at_behind (step.Gives s) at = saturated (at + 1)
at_behind (step.Before s) at = at

-- the token has these offsets
abbrev pub IsPlaced : Step → ℕ → ℕ → Type 0
IsPlaced step.Takes from to = ⊤
IsPlaced (step.Gives s) from to = (s.from ≡ from) × (s.to ≡ to)
IsPlaced (step.Before s) from to = (s.from ≡ from) × (s.to ≡ to)

-- the byte was not taken
abbrev pub IsBefore : Step → Type 0
IsBefore step.Takes = ⊥
IsBefore (step.Gives s) = ⊥
IsBefore (step.Before s) = ⊤

-- the mark opens a bracket
abbrev pub is_opening : Kind → Bool
is_opening (Opening b) = true
is_opening (Closing b) = false
is_opening Separator = false
is_opening Between = false
is_opening Naming = false
is_opening Scalar = false

-- why a mark may not come there
abbrev pub IsMarkFault : JsonFault → ℕ → Place → Kind → Type 0
IsMarkFault (fault.Syntax n) at p k = (n ≡ at) × (next p k ≡ None)
IsMarkFault (fault.TooDeep n) at p k = (n ≡ at) × (is_opening k ≡ true) × (level_in p.want p.around ≡ level_limit) × (next p k ≢ None)
IsMarkFault fault.NoMemory at p k = ⊤

-- why a byte may not stand where no word has begun
abbrev pub IsEntryFault : JsonFault → Reading → ℕ → Type 0
IsEntryFault (fault.Syntax n) r b = (n ≡ r.at) × ((at : ℕ) → begins (begin (wants_key r.place.want) b) r.place at ≡ failed)
IsEntryFault (fault.TooDeep n) r b =
    (n ≡ r.at) × (level_in r.place.want r.place.around ≡ level_limit) × (bracket : Bracket) × (q : Place)
    × ((at : ℕ) → begins (begin (wants_key r.place.want) b) r.place at ≡ leaves (gap q (at + 1)) (with_token (opens bracket) at (at + 1) []))
IsEntryFault fault.NoMemory r b = ⊤

-- why a byte may not come
abbrev pub IsRefused : JsonFault → Reading → ℕ → Type 0
IsRefused (fault.Syntax n) r b = (n ≡ r.at) × ((from at : ℕ) → moved_at (config_at r from at) b ≡ lost)
IsRefused (fault.TooDeep n) r b =
    (n ≡ r.at) × (level_in r.place.want r.place.around ≡ level_limit) × (bracket : Bracket) × (q : Place)
    × ((from at : ℕ) → moved_at (config_at r from at) b ≡ record { next = gap q (at + 1); took = true; given = with_token (opens bracket) at (at + 1) [] })
IsRefused fault.NoMemory r b = ⊤
