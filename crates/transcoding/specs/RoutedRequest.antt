-- Where a request leads: the path of its target, the binding that is chosen for it, and what the variables of that
-- binding take of the path (RFC 9110, section 9; google/api/http.proto).
use Rattle.std.specs.Prelude.{◌≡◌, ◌⊎◌, ℕ, List, codes}
use Rattle.linked_api.specs.declared.api.Api.{Api}
use Rattle.path_router.specs.RouteChoice.{IsFound, IsNotFound, IsWrongMethod}
use Rattle.path_router.specs.TargetPath.{IsTargetPath}
use Rattle.path_router.specs.declared.captures.Span.{Span}

-- a method that this product does not serve: HEAD or CONNECT, byte for byte (RFC 9110, sections 9.3.2 and 9.3.6)
abbrev pub IsMethodNotServed : List ℕ → Type 0
IsMethodNotServed method = (method ≡ codes "HEAD") ⊎ (method ≡ codes "CONNECT")

-- the path of a request is unknown: its method is served, and its target has no path, or one that no binding fits
pub record IsPathUnknown (api : Api) (method target : List ℕ) : Type 0 where
  pub served : IsMethodNotServed method → ⊥
  pub unknown : (path : List ℕ) → IsTargetPath target path → IsNotFound api.bindings path

-- the method of a request is not allowed: it is served, and bindings fit the path of the target, none of them for it
pub record IsMethodNotAllowed (api : Api) (method target : List ℕ) : Type 0 where
  pub served : IsMethodNotServed method → ⊥
  pub path : List ℕ
  pub target_path : IsTargetPath target path
  pub bits : ℕ
  pub wrong : IsWrongMethod api.bindings method path bits

-- a request is routed: its target has this path, and the binding of this index is found, whose variables take these
-- spans of the path
pub record IsRouted (api : Api) (method target path : List ℕ) (index : ℕ) (spans : List Span) : Type 0 where
  pub served : IsMethodNotServed method → ⊥
  pub target_path : IsTargetPath target path
  pub found : IsFound api.bindings method path index spans
