-- What a reader answers, by the bytes that it took and the tokens that it gave.
use Rattle.std.specs.Prelude.{◌≡◌, ℕ, List, [], ◌∷◌, ◌++◌, length, take, Option, Some, None, Result, Ok, Err, ⊤}
use Rattle.std.specs.Option.{IfSome}
use Rattle.json_events.specs.declared.state.Bracket.TheVariants.{Array, Object}
use Rattle.json_events.specs.declared.state.Name.TheVariants as names
use Rattle.json_events.specs.declared.state.WordState.{WordState}
use Rattle.json_events.specs.declared.fault.JsonFault.{JsonFault}
use Rattle.json_events.specs.declared.fault.JsonFault.TheVariants as fault
use Rattle.json_events.specs.declared.token.Token.{Token}
use Rattle.json_events.specs.declared.token.Token.TheVariants as tokens
use Rattle.json_events.specs.declared.token.Spanned.{Spanned}
use Rattle.json_events.specs.declared.token.Fed.{Fed}
use Rattle.json_events.specs.JsonTree.{Json, Mark, opens, closes, key, text, digits, name}
use Rattle.json_events.specs.JsonText.{Span, IsTextWith}
use Rattle.json_events.specs.JsonTokens.{HaveEndedIn}
use Rattle.base.specs.Saturated.{saturated}
use Rattle.json_events.specs.ReaderState.{Reading, StandsFor, IsCut, IsFaultOf, ReaderState, Stands}

-- the mark that a token is
abbrev pub mark_seen : Token → Mark
mark_seen tokens.BeginObject = opens Object
mark_seen tokens.EndObject = closes Object
mark_seen tokens.BeginArray = opens Array
mark_seen tokens.EndArray = closes Array
mark_seen (tokens.Key t) = key t
mark_seen (tokens.Text t) = text t
mark_seen (tokens.Number t) = digits t
mark_seen tokens.True = name names.True
mark_seen tokens.False = name names.False
mark_seen tokens.Null = name names.Null

-- the token is this one, with its offsets in 64 bits
pub record IsSpan (s : Spanned) (span : Span) : Type 0 where
  pub mark : span.mark ≡ mark_seen s.token
  pub from : s.from ≡ saturated span.from
  pub to : s.to ≡ saturated span.to

-- these tokens were given, so many bytes being taken by then: none, or one, which ends there
abbrev pub IsGiven : Option Spanned → List Span → ℕ → Type 0
IsGiven None given at = given ≡ []
IsGiven (Some s) given at = (span : Span) × (given ≡ span ∷ []) × IsSpan s span × (span.to ≡ at)

-- from what the one stood for, the other stands for these bytes and this token more
abbrev pub StandsOn : Reading → Reading → List ℕ → Option Spanned → Type 0
StandsOn old new bytes token = (b : List ℕ) (ts : List Span) → StandsFor old b ts → (given : List Span) × IsGiven token given (length (b ++ bytes)) × StandsFor new (b ++ bytes) (ts ++ given)

-- the same for the first of the bytes, so many, and a token that is given has ended in the bytes, as have those
-- before it
abbrev pub ReadsOn : Reading → Reading → List ℕ → ℕ → Option Spanned → Type 0
ReadsOn old new bytes taken token = (b : List ℕ) (ts : List Span) → StandsFor old b ts
    → (given : List Span) × IsGiven token given (length (b ++ take taken bytes))
    × StandsFor new (b ++ take taken bytes) (ts ++ given) × IfSome token (λ _. HaveEndedIn (b ++ bytes) (ts ++ given))

-- the fault of these bytes behind those for which it stood
abbrev pub IsFaultBehind : JsonFault → Reading → List ℕ → Type 0
IsFaultBehind f old bytes = (b : List ℕ) (ts : List Span) → StandsFor old b ts → IsFaultOf f (b ++ bytes) ts

-- 1 where a word has begun and not ended, which may end with no further byte
abbrev pub pending_word : Option WordState → ℕ
pending_word None = 0
pending_word (Some l) = 1

-- the bytes that a call adds: those that it took, or all of them where it refused
abbrev pub fed_bytes : Result Fed JsonFault → List ℕ → List ℕ
fed_bytes (Ok fed) bytes = take fed.taken bytes
fed_bytes (Err f) bytes = bytes

-- the token that a call of feed gave
abbrev pub fed_token : Result Fed JsonFault → Option Spanned
fed_token (Ok fed) = fed.token
fed_token (Err f) = None

-- the token is a number
abbrev pub IsNumberToken : Token → Type 0
IsNumberToken (tokens.Number t) = ⊤
IsNumberToken t = ⊥

-- the token that a call of finish gave
abbrev pub finish_token : Result (Option Spanned) JsonFault → Option Spanned
finish_token (Ok token) = token
finish_token (Err f) = None

-- a call of a reader: whatever it stood for, it stands for these bytes and this token more
abbrev pub GoesOn : ReaderState → ReaderState → List ℕ → Option Spanned → Type 0
GoesOn old new bytes token = (b : List ℕ) (ts : List Span) → Stands old b ts → (given : List Span) × IsGiven token given (length (b ++ bytes)) × Stands new (b ++ bytes) (ts ++ given)

-- a call of feed: whatever the reader stood for, it stands for the bytes that the call adds and the token that it
-- gives more; that token, and those before it, have ended in the bytes that were given
abbrev pub FeedsOn : ReaderState → ReaderState → List ℕ → Result Fed JsonFault → Type 0
FeedsOn old new bytes result = (b : List ℕ) (ts : List Span) → Stands old b ts
    → (given : List Span) × IsGiven (fed_token result) given (length (b ++ fed_bytes result bytes))
    × Stands new (b ++ fed_bytes result bytes) (ts ++ given)
    × IfSome (fed_token result) (λ _. HaveEndedIn (b ++ bytes) (ts ++ given))

-- what came is a text, and these are the last of its tokens
abbrev pub IsWholeWith : (List ℕ → List Span → Type 0) → Option Spanned → Type 0
IsWholeWith For token = (b : List ℕ) (ts : List Span) → For b ts → (given : List Span) × IsGiven token given (length b) × (j : Json) × IsTextWith j b (ts ++ given)

-- what came is no text, though it begins one, no other token has ended in it, and the fault has its length
abbrev pub IsNotWhole : (List ℕ → List Span → Type 0) → JsonFault → Type 0
IsNotWhole For f = (b : List ℕ) (ts : List Span) → For b ts
    → (f ≡ fault.Syntax (saturated (length b))) × IsCut b ts (length b)

-- the fault of these bytes behind those for which a reader stood that had refused nothing
abbrev pub IsFeedFault : JsonFault → ReaderState → List ℕ → Type 0
IsFeedFault f old bytes = (b : List ℕ) (ts : List Span) → Stands old b ts → IsFaultOf f (b ++ bytes) ts
