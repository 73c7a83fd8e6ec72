-- Calls of `feed` one after another, in the words of every reader of pieces.
use Rattle.std.specs.Prelude.{◌≡◌, ℕ, ◌+◌, ◌<◌, ◌⊎◌, List, [], ◌∷◌, ◌++◌, length, take, Option, None, Result, IfOk, IfErr, OnOk, ⊤}
use Rattle.std.specs.Option.{option_to_list}
use Rattle.base.specs.PiecewiseReading.{PieceReader, FeedCall, taken_in}
use Rattle.base.specs.Saturated.{saturated}
use Rattle.json_events.specs.declared.fault.JsonFault.{JsonFault}
use Rattle.json_events.specs.declared.fault.JsonFault.TheVariants as fault
use Rattle.json_events.specs.declared.token.Spanned.{Spanned}
use Rattle.json_events.specs.declared.token.Fed.{Fed}
use Rattle.json_events.specs.JsonTree.{Json}
use Rattle.json_events.specs.JsonText.{Span, IsTextWith, BeginsText}
use Rattle.json_events.specs.JsonTokens.{AreTokensOf, HaveEndedIn}
use Rattle.json_events.specs.ReaderState.{IsTooDeep, ReaderState, Stands}
use Rattle.json_events.specs.ReaderAnswers.{IsSpan, FeedsOn, IsFeedFault, IsWholeWith, IsNotWhole}

-- what `Reader::feed` promises of one call
pub record IsFeed (old : ReaderState) (bytes : List ℕ) (result : Result Fed JsonFault)
    (new : ReaderState) : Type 0 where
  pub feeds_on : FeedsOn old new bytes result
  pub fault : old.fault ≡ None → IfErr result (λ f. IsFeedFault f old bytes)
  pub accepted : OnOk result (new.fault ≡ None)

-- what `Reader::finish` promises of one call
pub record IsFinish (old : ReaderState) (result : Result (Option Spanned) JsonFault) : Type 0 where
  pub whole : IfOk result (λ token. IsWholeWith (Stands old) token)
  pub fault : old.fault ≡ None → IfErr result (λ f. IsNotWhole (Stands old) f)

-- a reader of JSON by its calls, which tell tokens
abbrev pub json_feeding : PieceReader ReaderState Fed JsonFault (List Spanned)
json_feeding = record {
  Step = IsFeed;
  taken = λ fed. fed.taken;
  tells = λ fed bytes told. told ++ option_to_list fed.token;
}

-- the tokens are these, with their offsets in 64 bits
abbrev pub AreSpans : List Spanned → List Span → Type 0
AreSpans [] [] = ⊤
AreSpans [] (t ∷ ts) = ⊥
AreSpans (s ∷ told) [] = ⊥
AreSpans (s ∷ told) (t ∷ ts) = IsSpan s t × AreSpans told ts

-- the reader stands for these bytes and for these tokens
abbrev pub StandsForTokens : ReaderState → List ℕ → List Spanned → Type 0
StandsForTokens r bytes told = (ts : List Span) × Stands r bytes ts × AreSpans told ts

-- the calls were given bytes of a list, each from where the one before it stopped; this is what they left
abbrev pub AreGivenInTurn : {A : Type 0} → (A → ℕ) → List ℕ → List (FeedCall A) → List ℕ → Type 0
AreGivenInTurn {A} taken bytes [] left = bytes ≡ left
AreGivenInTurn {A} taken bytes (call ∷ calls) left =
    (behind more : List ℕ) × (bytes ≡ taken_in taken call ++ behind) × (bytes ≡ call.bytes ++ more)
    × AreGivenInTurn taken behind calls left

-- of a list a reader has taken these bytes and told these tokens, which have ended in it
pub record HasTold (r : ReaderState) (bytes taken : List ℕ) (told : List Spanned) : Type 0 where
  pub tokens : List Span
  pub stands : Stands r taken tokens
  pub spans : AreSpans told tokens
  pub ended : HaveEndedIn bytes tokens
  pub fresh : r.fault ≡ None

-- the fault of a list of which these tokens were told: they are those of its longest front that begins a text, and
-- Syntax has the length of that; or they are those before the bracket that is too deep
abbrev pub IsFirstFault : JsonFault → List ℕ → List Spanned → Type 0
IsFirstFault (fault.Syntax n) bytes told =
    (k : ℕ) × (ts : List Span) × (n ≡ saturated k) × (k < length bytes) × AreTokensOf (take k bytes) ts
    × AreSpans told ts × (BeginsText (take (k + 1) bytes) → ⊥)
IsFirstFault (fault.TooDeep n) bytes told =
    (k : ℕ) × (ts : List Span) × (n ≡ saturated k) × IsTooDeep bytes ts k × AreSpans told ts
IsFirstFault fault.NoMemory bytes told = ⊤

-- the list is a text, and these are all of its tokens
abbrev pub IsTextToldBy : List ℕ → List Spanned → Type 0
IsTextToldBy bytes told = (j : Json) × (ts : List Span) × IsTextWith j bytes ts × AreSpans told ts

-- the list is no text, though it begins one; its tokens are these, and the fault has its length
abbrev pub IsCutAt : JsonFault → List ℕ → List Spanned → Type 0
IsCutAt f bytes told = (f ≡ fault.Syntax (saturated (length bytes)))
    × (ts : List Span) × AreTokensOf bytes ts × AreSpans told ts
    × ((j : Json) (all : List Span) → IsTextWith j bytes all → ⊥)

-- the fault of a list that ends: its first one, or that no text ends there
abbrev pub IsTextFault : JsonFault → List ℕ → List Spanned → Type 0
IsTextFault f bytes told = IsFirstFault f bytes told ⊎ IsCutAt f bytes told
