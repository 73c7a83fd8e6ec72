-- What has been taken of a body's bytes.
use Rattle.std.specs.Prelude.{◌≡◌, ◌+◌, ℕ, List, Option, None, ⊤}
use Rattle.base.specs.Saturated.{saturated}
use Rattle.json_events.specs.JsonText.{IsTextOf, Span, marks_of}
use Rattle.json_events.specs.JsonTokens.{HaveEndedIn}
use Rattle.json_events.specs.ReaderState.{ReaderState, Stands}
use Rattle.json_events.specs.JsonTree.{Json}
use Rattle.json_events.specs.declared.fault.JsonFault.{JsonFault}
use Rattle.json_events.specs.declared.fault.JsonFault.TheVariants as texts
use Rattle.json_meanings.specs.FieldFaults.{tree_tokens}
use Rattle.json_meanings.specs.JsonScalars.{Schema}
use Rattle.message_types.specs.declared.messages.TypeId.{TypeId}
use Rattle.protojson_read.specs.BuilderReads.{Reads}
use Rattle.json_bodies.specs.FrontFaults.{IsFrontFault}
use Rattle.json_bodies.specs.WholeMessages.{IsBodyFault}
use Rattle.protojson_read.specs.declared.builder.Builder.{Builder}
use Rattle.json_bodies.specs.declared.fault.BodyFault.{BodyFault}
use Rattle.json_bodies.specs.declared.fault.BodyFault.TheVariants.{Field, Syntax, NoMemory}
use Rattle.protojson_read.specs.declared.fault.FieldFault.{FieldFault}
use Rattle.protojson_read.specs.declared.fault.FieldFault.TheVariants as fields

-- of the bytes the reader has taken these, and the builder all tokens that it gave, which have ended in the bytes; the
-- first byte stands at this place
pub record HasTaken (r : ReaderState) (b : Builder) (c : Schema) (id : TypeId) (n : Option ℕ) (place : ℕ)
    (bytes taken : List ℕ) : Type 0 where
  pub tokens : List Span
  pub stands : Stands r taken tokens
  pub ended : HaveEndedIn bytes tokens
  pub fresh : r.fault ≡ None
  pub reads : Reads b c id n place (marks_of tokens)

-- the first fault that bytes show before they end; out of memory is free
abbrev pub IsFrontRefusal : Schema → TypeId → Option ℕ → ℕ → List ℕ → BodyFault → Type 0
IsFrontRefusal c id n place bytes NoMemory = ⊤
IsFrontRefusal c id n place bytes fault = IsFrontFault c id n place bytes fault

-- the fault of bytes; out of memory is free
abbrev pub IsBodyRefusal : Schema → TypeId → Option ℕ → ℕ → List ℕ → BodyFault → Type 0
IsBodyRefusal c id n place bytes NoMemory = ⊤
IsBodyRefusal c id n place bytes fault = IsBodyFault c id n place bytes fault

-- the bytes are a text, of which the builder has taken all tokens
pub record HasTakenAll (b : Builder) (c : Schema) (id : TypeId) (n : Option ℕ) (place : ℕ) (bytes : List ℕ)
    : Type 0 where
  pub tree : Json
  pub text : IsTextOf tree bytes
  pub reads : Reads b c id n place (tree_tokens tree)

-- the fault of a token as that of a body
abbrev pub of_token : FieldFault → BodyFault
of_token (fields.At at kind) = Field at kind
of_token fields.NoMemory = NoMemory

-- the fault of bytes that are no text as that of a body that stands at a place
abbrev pub of_text : ℕ → JsonFault → BodyFault
of_text place (texts.Syntax at) = Syntax (saturated (place + at))
of_text place (texts.TooDeep at) = Syntax (saturated (place + at))
of_text place texts.NoMemory = NoMemory
