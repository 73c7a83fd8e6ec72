-- The steps from a route to a transcoded request. These definitions stand for the crate's own proofs: no public clause
-- cites them.
use Rattle.std.specs.Prelude.{ℕ, List}
use Rattle.field_binding.specs.PathSettings.{AreCapturesOf, BindsScalars}
use Rattle.field_binding.specs.RequestMessages.{IsBodyless}
use Rattle.gate_world.specs.declared.refusal.Refusal.TheVariants.{MethodNotServed, PathUnknown, MethodNotAllowed, PathValue, NoMemory}
use Rattle.linked_api.specs.declared.api.Api.{Api}
use Rattle.path_router.specs.declared.captures.Span.{Span}
use Rattle.transcoding.specs.RoutedRequest.{IsMethodNotAllowed, IsMethodNotServed, IsPathUnknown}
use Rattle.transcoding.specs.TranscodedRequest.{IsWrongValue}
use Rattle.transcoding.specs.declared.refusal.RequestRefusal.{RequestRefusal}
use Rattle.transcoding.specs.declared.refusal.RequestRefusal.TheVariants.{Listed}

-- why a request leads nowhere
abbrev pub IsRouteRefusal : Api → List ℕ → List ℕ → RequestRefusal → Type 0
IsRouteRefusal api method target (Listed MethodNotServed) = IsMethodNotServed method
IsRouteRefusal api method target (Listed PathUnknown) = IsPathUnknown api method target
IsRouteRefusal api method target (Listed MethodNotAllowed) = IsMethodNotAllowed api method target
IsRouteRefusal api method target _ = ⊥

-- the values of a path can be read: the spans are the binding's, and it has no body and binds scalars alone
pub record IsReady (api : Api) (index : ℕ) (path : List ℕ) (spans : List Span) : Type 0 where
  pub captures : AreCapturesOf api index path spans
  pub bodyless : IsBodyless api index
  pub scalars : BindsScalars api index

-- why the values of a path are refused
abbrev pub IsValueRefusal : Api → ℕ → List ℕ → List Span → RequestRefusal → Type 0
IsValueRefusal api index path spans (Listed (PathValue n fault)) = IsWrongValue api index path spans n fault
IsValueRefusal api index path spans (Listed NoMemory) = Unit {0}
IsValueRefusal api index path spans _ = ⊥
