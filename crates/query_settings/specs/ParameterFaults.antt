-- What is wrong with the name of a query's parameter (google/api/http.proto, HttpRule), by what the path and the body
-- take and by what the parameters before it set. The causes are in their order, of which the first counts.
use Rattle.std.specs.Prelude.{◌==◌, ◌&&◌, ◌||◌, ◌+◌, ℕ, Bool, true, false, List, [], ◌∷◌, length, nat_lt, not, Option, Some, None, Result, Ok, Err, if◌then◌else◌}
use Rattle.std.specs.List.{list_any}
use Rattle.std.specs.Str.{bytes_eq}
use Rattle.http_rules.specs.declared.template.Body.{Body}
use Rattle.http_rules.specs.declared.template.Body.TheVariants.{Nothing, Whole, Part}
use Rattle.linked_api.specs.FieldPaths.{is_leaf, is_singular}
use Rattle.linked_api.specs.LinkedApi.{begins_path}
use Rattle.message_types.specs.declared.fields.Kind.{Kind}
use Rattle.message_types.specs.declared.fields.Kind.TheVariants.{One as OneOf, Message as MessageOf}
use Rattle.message_types.specs.declared.fields.Shape.{Shape}
use Rattle.message_types.specs.declared.fields.Shape.TheVariants.{Map as MapOf}
use Rattle.message_types.specs.declared.messages.TypeId.{TypeId}
use Rattle.message_types.specs.declared.messages.Types.{Types}
use Rattle.query_settings.specs.QueryTargets.{Choice, choices_of, is_other, numbers_of, target_of}
use Rattle.query_settings.specs.declared.fault.ParameterKind.{ParameterKind}
use Rattle.query_settings.specs.declared.fault.ParameterKind.TheVariants.{Unknown, Taken, NotALeaf, Twice, TooDeep}
use Rattle.query_settings.specs.declared.targets.Target.{Target}

-- what parameters are judged by: the types, the type of the message, the paths of the template's variables, and the
-- body
pub record QueryScope : Type 0 where
  pub types : Types
  pub input : TypeId
  pub paths : List (List ℕ)
  pub body : Body

-- what a name names; where the body is the whole message, nothing is left to be named
abbrev pub left_by : Body → Option Target → Option Target
left_by Whole t = None
left_by _ t = t

-- what a name names in a request
abbrev pub target_in : QueryScope → List ℕ → Option Target
target_in s name = left_by s.body (target_of s.types s.input name)

-- the body's field is at these numbers or above them
abbrev pub body_takes : Body → List ℕ → Bool
body_takes Nothing numbers = false
body_takes Whole numbers = true
body_takes (Part n) numbers = begins_path (n ∷ []) numbers

-- a variable's field, or the body's, is at these numbers or above them
abbrev pub is_taken : List (List ℕ) → Body → List ℕ → Bool
is_taken paths body numbers = list_any (λ p. begins_path p numbers) paths || body_takes body numbers

-- a field with this shape is no map
abbrev pub is_no_map : Shape → Bool
is_no_map (MapOf s) = false
is_no_map _ = true

-- a field can be set by a text, or by one for each item: it is a leaf or a list of leaves
abbrev pub is_settable : Types → Target → Bool
is_settable types t = is_no_map t.shape && is_leaf types t.kind

-- some choice is of another member of a oneof than one of these
abbrev pub chooses_other : List Choice → List Choice → Bool
chooses_other chosen choices = list_any (λ c. list_any (is_other c) chosen) choices

-- two names cannot both be set: they name one singular field, or the ways to their fields choose two members of one
-- oneof
abbrev pub clashes : Target → Target → Bool
clashes t other =
    (is_singular t.shape && bytes_eq (numbers_of t.steps) (numbers_of other.steps))
    || chooses_other (choices_of other) (choices_of t)

-- the levels of a value of this kind beside those of the messages around it
abbrev pub own_levels : Kind → ℕ
own_levels (OneOf s) = 0
own_levels (MessageOf id) = 1

-- the levels that a message has at least once a field of it is set: each number on the way is one
abbrev pub levels_of : Target → ℕ
levels_of t = length t.steps + own_levels t.kind

-- what a name names, which may be set behind what was named and set earlier; or why not
abbrev pub judged : Types → List (List ℕ) → Body → List Target → Option Target → Result Target ParameterKind
judged types paths body earlier None = Err Unknown
judged types paths body earlier (Some t) =
    if is_taken paths body (numbers_of t.steps) then Err Taken
    else (if not (is_settable types t) then Err NotALeaf
    else (if list_any (clashes t) earlier then Err Twice
    else (if nat_lt 100 (levels_of t) then Err TooDeep else Ok t)))

-- what a name names in a request, where these were named and set earlier; or why it may not be set
abbrev pub judged_in : QueryScope → List Target → List ℕ → Result Target ParameterKind
judged_in s earlier name = judged s.types s.paths s.body earlier (target_in s name)
