-- Which requests are of a form that is built: those that a binding without a body takes, whose variables end at scalars
-- other than bytes, for a method that takes one message, and whose target has no query.
use Rattle.std.specs.Prelude.{◌≡◌, ℕ, false, List, IsTrue, nat_eq}
use Rattle.std.specs.List.{list_any}
use Rattle.field_binding.specs.PathSettings.{BindsScalars, IsCall}
use Rattle.field_binding.specs.RequestMessages.{IsBodyless}
use Rattle.http_rules.specs.declared.template.Binding.{Binding}
use Rattle.linked_api.specs.declared.api.Api.{Api}
use Rattle.linked_api.specs.declared.api.MethodInfo.{MethodInfo}

-- a target has a `?`
abbrev pub HasQuery : List ℕ → Type 0
HasQuery target = IsTrue (list_any (λ b. nat_eq b 63) target)

-- the method that the binding of an index calls takes one message
pub record TakesOneMessage (api : Api) (index : ℕ) : Type 0 where
  pub binding : Binding
  pub method : MethodInfo
  pub call : IsCall api index binding method
  pub unary : method.client_streams ≡ false

-- a target and the binding of an index are of a form that is built
pub record IsBuilt (api : Api) (target : List ℕ) (index : ℕ) : Type 0 where
  pub no_query : HasQuery target → ⊥
  pub bodyless : IsBodyless api index
  pub unary : TakesOneMessage api index
  pub scalars : BindsScalars api index
