-- What a reader keeps, and the bytes and tokens for which it stands.
use Rattle.std.specs.Prelude.{◌≡◌, ℕ, ◌+◌, ◌-◌, ◌<◌, ◌≤◌, ◌^◌, ◌⊎◌, List, [], ◌∷◌, ◌++◌, length, take, Bool, true, Option, Some, None, ⊤}
use Rattle.std.specs.Option.{IfSome}
use Rattle.base.specs.Saturated.{saturated}
use Rattle.json_events.specs.declared.state.Bracket.{Bracket}
use Rattle.json_events.specs.declared.state.Want.{Want}
use Rattle.json_events.specs.declared.state.Want.TheVariants as want
use Rattle.json_events.specs.declared.state.WordState.{WordState}
use Rattle.json_events.specs.declared.fault.JsonFault.{JsonFault}
use Rattle.json_events.specs.declared.fault.JsonFault.TheVariants as fault
use Rattle.json_events.specs.JsonTree.{opens}
use Rattle.json_events.specs.JsonText.{Span}
use Rattle.json_events.specs.WordSteps.{is_number}
use Rattle.json_events.specs.WordStates.{IsOpen}
use Rattle.json_events.specs.NestingSteps.{Place}
use Rattle.json_events.specs.ReadingSteps.{Config, config, gap}
use Rattle.json_events.specs.HeldWords.{HoldsOnly, unkept_of}
use Rattle.json_events.specs.JsonTokens.{BeginsWith, IsNoTextWith, NoOtherHasEnded, AreTokensOf, level, level_in, level_limit, Awaits}

-- the word that has begun and not ended, whether it stands where a key is wanted, and what is kept of it;
-- the place behind it; where it began, and how many bytes were taken
pub record Reading : Type 0 where
  pub word : Option WordState
  pub is_key : Bool
  pub held : List ℕ
  pub place : Place
  pub from : ℕ
  pub at : ℕ

-- the configuration of the machine, with exact offsets
abbrev pub word_at : Option WordState → Bool → List ℕ → Place → ℕ → ℕ → Option Config
word_at None in_key held p from at = gap p at
word_at (Some l) in_key held p from at = config (Some (record { state = l; is_key = in_key; held = held })) p from at

-- the configuration of what a reader keeps
abbrev pub config_at : Reading → ℕ → ℕ → Option Config
config_at r from at = word_at r.word r.is_key r.held r.place from at

-- some bytes complete the word, and a number stands at the end of a value
abbrev pub IsReadableWord : Option WordState → Want → Type 0
IsReadableWord None w = ⊤
IsReadableWord (Some l) w = IsOpen l × (is_number l ≡ true → w ≡ want.After)

-- what is kept of a word and what is not, by its state, are no more than what came of it, which exact offsets tell
abbrev pub KeepsLess : Option WordState → List ℕ → ℕ → ℕ → Type 0
KeepsLess None held from at = ⊤
KeepsLess (Some l) held from at = at < 2 ^ 64 - 1 → from + length held + unkept_of l ≤ at

-- some bytes complete it, what is kept fits, and no more brackets are open than may be
pub record IsReadable (r : Reading) : Type 0 where
  pub word : IsReadableWord r.word r.place.want
  pub holds : HoldsOnly r.word r.held
  pub kept : KeepsLess r.word r.held r.from r.at
  pub shallow : level_in r.place.want r.place.around ≤ level_limit

-- the bytes came and the tokens were given
pub record StandsFor (r : Reading) (bytes : List ℕ) (ts : List Span) : Type 0 where
  pub start : ℕ
  pub from_is : IfSome r.word (λ _. r.from ≡ saturated start)
  pub at_is : r.at ≡ saturated (length bytes)
  pub shallow : level ts ≤ level_limit
  pub awaits : Awaits (config_at r start (length bytes)) bytes ts

-- so many of the bytes begin a text whose tokens begin with these, no other token has ended in them, and one byte
-- more begins no such text
pub record IsBroken (bytes : List ℕ) (ts : List Span) (k : ℕ) : Type 0 where
  pub within : k < length bytes
  pub alive : BeginsWith (take k bytes) ts
  pub no_other : NoOtherHasEnded (take k bytes) ts
  pub dead : BeginsWith (take (k + 1) bytes) ts → ⊥

-- the byte behind so many is an opening bracket: with it the tokens of the bytes are these and the bracket, and
-- as many are open before it as may be
pub record IsTooDeep (bytes : List ℕ) (ts : List Span) (k : ℕ) : Type 0 where
  pub bracket : Bracket
  pub within : k < length bytes
  pub tokens : AreTokensOf (take (k + 1) bytes) (ts ++ record { mark = opens bracket; from = k; to = k + 1 } ∷ [])
  pub full : level ts ≡ level_limit

-- nothing follows so many of the bytes, which begin a text and are none, and no other token has ended in them
pub record IsCut (bytes : List ℕ) (ts : List Span) (k : ℕ) : Type 0 where
  pub within : k ≤ length bytes
  pub alive : BeginsWith (take k bytes) ts
  pub no_other : NoOtherHasEnded (take k bytes) ts
  pub dead : IsNoTextWith (take k bytes) ts

-- the fault of bytes that may go on, behind these tokens; nothing is said where memory was not found
abbrev pub IsFaultOf : JsonFault → List ℕ → List Span → Type 0
IsFaultOf (fault.Syntax n) bytes ts = (k : ℕ) × (n ≡ saturated k) × IsBroken bytes ts k
IsFaultOf (fault.TooDeep n) bytes ts = (k : ℕ) × (n ≡ saturated k) × IsTooDeep bytes ts k
IsFaultOf fault.NoMemory bytes ts = ⊤

-- the fault of bytes that were said to end
abbrev pub IsEndFault : JsonFault → List ℕ → List Span → Type 0
IsEndFault (fault.Syntax n) bytes ts = (k : ℕ) × (n ≡ saturated k) × IsCut bytes ts k
IsEndFault (fault.TooDeep n) bytes ts = ⊥
IsEndFault fault.NoMemory bytes ts = ⊥

-- what a reader keeps, and the fault that it has answered
pub record ReaderState : Type 0 where
  pub reading : Reading
  pub fault : Option JsonFault

-- what a reader keeps: a byte for each bracket around, of which no more are open than may be; between words nothing
-- else, and of a word no more than what came of it, which exact offsets tell
pub record KeepsNoMore (r : ReaderState) : Type 0 where
  pub levels : length r.reading.place.around ≤ level_limit
  pub between : r.reading.word ≡ None → r.reading.held ≡ []
  pub word : IfSome r.reading.word (λ _. r.reading.at < 2 ^ 64 - 1
      → r.reading.from + length r.reading.held ≤ r.reading.at)

-- what it stands for, by whether it has refused
abbrev pub StandsByFault : Option JsonFault → Reading → List ℕ → List Span → Type 0
StandsByFault None r bytes ts = StandsFor r bytes ts
StandsByFault (Some f) r bytes ts = IsFaultOf f bytes ts ⊎ IsEndFault f bytes ts

-- the reader took these bytes and gave these tokens
pub record Stands (r : ReaderState) (bytes : List ℕ) (ts : List Span) : Type 0 where
  pub by : StandsByFault r.fault r.reading bytes ts
