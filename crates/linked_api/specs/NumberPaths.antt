-- Paths of field numbers, as the bindings of a linked API have them: what is found along them.
use Rattle.std.specs.Prelude.{◌≡◌, ◌<◌, ℕ, List, [], ◌∷◌, length, Option, Some, None, IfSome, IsSome, option_and_then, slice_get}
use Rattle.std.specs.List.{AllByRecursion}
use Rattle.http_rules.specs.declared.template.Binding.{Binding}
use Rattle.linked_api.specs.FieldPaths.{IsLeaf, IsSingular, LeadsInto, inner_message}
use Rattle.linked_api.specs.LinkedApi.{IsBodyOf}
use Rattle.linked_api.specs.declared.api.Api.{Api}
use Rattle.linked_api.specs.declared.api.MethodInfo.{MethodInfo}
use Rattle.message_types.specs.Types.{field_in, field_of, fields_of}
use Rattle.message_types.specs.declared.fields.Field.{Field}
use Rattle.message_types.specs.declared.messages.TypeId.{TypeId}
use Rattle.message_types.specs.declared.messages.Types.{Types}

-- a number is that of a singular field of a type
pub record IsNumberStep (types : Types) (id : TypeId) (number : ℕ) : Type 0 where
  pub field : Field
  pub field_is : field_of types id number ≡ Some field
  pub singular : IsSingular field.shape

-- numbers lead from a type to a leaf: each is that of a singular field of the type there, all but the last are of
-- plain messages, and the last is of a leaf
abbrev pub NumbersLeadToLeaf : Types → TypeId → List ℕ → Type 0
NumbersLeadToLeaf types id [] = ⊥
NumbersLeadToLeaf types id (n ∷ []) = (step : IsNumberStep types id n) × IsLeaf types step.field.kind
NumbersLeadToLeaf types id (n ∷ m ∷ numbers) =
    (step : IsNumberStep types id n) × (inner : TypeId) × LeadsInto types step.field.kind inner
    × NumbersLeadToLeaf types inner (m ∷ numbers)

-- the field at the end of a path of numbers that begins at a type
abbrev pub last_field : Types → TypeId → List ℕ → Option Field
last_field types id [] = None
last_field types id (n ∷ []) = field_of types id n
last_field types id (n ∷ m ∷ numbers) =
    option_and_then (λ (inner : TypeId). last_field types inner (m ∷ numbers))
    (option_and_then (λ (f : Field). inner_message types f.kind) (field_of types id n))

-- a field is a singular leaf
pub record IsLeafField (types : Types) (f : Field) : Type 0 where
  pub singular : IsSingular f.shape
  pub leaf : IsLeaf types f.kind

-- what there is of a binding of a linked API: its method, whose types are there; a path of numbers for each variable,
-- each of which leads to a leaf of the input; and its body and its response, which are there
pub record IsServable (api : Api) (b : Binding) : Type 0 where
  pub method : MethodInfo
  pub method_is : slice_get api.methods b.call ≡ Some method
  pub input : method.input.0 < length api.types.messages
  pub output : method.output.0 < length api.types.messages
  pub one_each : length b.paths ≡ length b.template.variables
  pub paths : AllByRecursion (NumbersLeadToLeaf api.types method.input) b.paths
  pub body : IsBodyOf (fields_of api.types method.input) b.body
  pub response : IfSome b.response (λ n. IsSome (field_in (fields_of api.types method.output) n))
