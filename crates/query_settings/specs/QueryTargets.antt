-- What the name of a query's parameter names (google/api/http.proto, HttpRule: "Any fields in the request message which
-- are not bound by the path template automatically become HTTP request parameters"): field names joined by dots, each
-- by its JSON name or its name in the .proto file, which lead through singular fields of plain messages.
use Rattle.std.specs.Prelude.{◌==◌, ◌&&◌, ◌++◌, ℕ, Bool, List, [], ◌∷◌, Option, Some, None, if◌then◌else◌, map, not, option_and_then, option_map}
use Rattle.std.specs.Str.{bytes_eq}
use Rattle.form_urlencoded.specs.Form.{dot, split}
use Rattle.json_meanings.specs.PartialMessages.{field_named}
use Rattle.linked_api.specs.FieldPaths.{inner_message, is_singular}
use Rattle.message_types.specs.Types.{fields_of}
use Rattle.message_types.specs.declared.fields.Field.{Field}
use Rattle.message_types.specs.declared.messages.TypeId.{TypeId}
use Rattle.message_types.specs.declared.messages.Types.{Types}
use Rattle.query_settings.specs.declared.targets.Step.{Step}
use Rattle.query_settings.specs.declared.targets.Target.{Target}
use Rattle.schema.specs.Validity.{oneof_of}

-- a field on the way: its number, and the oneof of which it is a member
abbrev pub step_of : Field → Step
step_of f = record { number = f.number; oneof = oneof_of (Some f) }

-- the way through these steps and then to a field
abbrev pub target_at : List Step → Field → Target
target_at way f = record { steps = way ++ step_of f ∷ []; kind = f.kind; shape = f.shape }

-- the plain message that a way passes into at a field, which is singular
abbrev pub passes : Types → Field → Option TypeId
passes types f = if is_singular f.shape then inner_message types f.kind else None

-- what names name, joined, from a type on, behind these steps: each names a field, and each but the last one that is
-- passed through
abbrev pub named : Types → TypeId → List Step → List (List ℕ) → Option Target
named types id way [] = None
named types id way (name ∷ []) = option_map (target_at way) (field_named name (fields_of types id))
named types id way (name ∷ next ∷ names) =
    option_and_then (λ (f : Field).
    option_and_then (λ (inner : TypeId). named types inner (way ++ step_of f ∷ []) (next ∷ names)) (passes types f))
    (field_named name (fields_of types id))

-- what a whole name names in a message of a type
abbrev pub target_of : Types → TypeId → List ℕ → Option Target
target_of types id name = named types id [] (split dot name)

-- the numbers of steps
abbrev pub numbers_of : List Step → List ℕ
numbers_of steps = map (λ (s : Step). s.number) steps

-- that a member of a oneof is chosen: where the oneof stands, which is its index and then the numbers on the way to its
-- message, and the member's number
pub record Choice : Type 0 where
  pub place : List ℕ
  pub member : ℕ

-- what a step chooses behind these numbers
abbrev pub choice_at : List ℕ → ℕ → Option ℕ → List Choice
choice_at before n None = []
choice_at before n (Some oneof) = record { place = oneof ∷ before; member = n } ∷ []

-- what steps choose behind these numbers
abbrev pub choices_from : List ℕ → List Step → List Choice
choices_from before [] = []
choices_from before (s ∷ steps) = choice_at before s.number s.oneof ++ choices_from (before ++ s.number ∷ []) steps

-- what a way chooses
abbrev pub choices_of : Target → List Choice
choices_of t = choices_from [] t.steps

-- of two choices the one is of another member of the same oneof
abbrev pub is_other : Choice → Choice → Bool
is_other a b = bytes_eq a.place b.place && not (a.member == b.member)
