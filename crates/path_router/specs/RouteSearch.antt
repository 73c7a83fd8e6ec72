-- The search among the first bindings of a list. These definitions stand for the crate's own proofs: no public clause
-- cites them.
use Rattle.std.specs.Prelude.{◌≡◌, ℕ, List, slice_get, Option, Some, None, MatchOption}
use Rattle.http_rules.specs.TemplateMatch.{Fits}
use Rattle.http_rules.specs.declared.template.Binding.{Binding}
use Rattle.path_router.specs.RouteChoice.{IsFirst, IsUnserved, Precedes, Serves}

-- the index of the first of the bindings, or none where none serves
abbrev pub IsBest : List Binding → List ℕ → List ℕ → Option ℕ → Type 0
IsBest bindings method path best =
    MatchOption best (IsUnserved bindings method path) (λ index. (b : Binding) × IsFirst bindings method path index b)

-- a binding leads the best so far: there is none, or it precedes it
abbrev pub Leads : List Binding → List ℕ → Option ℕ → Binding → Type 0
Leads bindings method None b = Unit {0}
Leads bindings method (Some index) b =
    (other : Binding) × (slice_get bindings index ≡ Some other) × Precedes method b other

-- a binding takes the place of the best so far
pub record TakesOver (bindings : List Binding) (method path : List ℕ) (best : Option ℕ) (b : Binding) : Type 0 where
  pub serves : Serves method b
  pub fits : Fits b.template path
  pub leads : Leads bindings method best b
