-- Bindings of which a router can be built, and for which it stands.
use Rattle.std.specs.Prelude.{◌≡◌, ◌<◌, ◌≤◌, ◌^◌, List, length, map}
use Rattle.std.specs.List.{AllByRecursion}
use Rattle.std.specs.Set.{distinct_count}
use Rattle.std.specs.Str.{bytes_eq}
use Rattle.http_rules.specs.Routes.{AreRoutesApart}
use Rattle.http_rules.specs.Template.{IsTemplate}
use Rattle.http_rules.specs.declared.template.Binding.{Binding}
use Rattle.path_router.specs.BindingMethods.{AreNumbersOf, methods_of}
use Rattle.path_router.specs.declared.router.Router.{Router}

-- fewer than 2^32 bindings, each with a template that can be parsed, of which no two are one route, with at most 64
-- methods
pub record AreRoutable (bindings : List Binding) : Type 0 where
  pub few : length bindings < 2 ^ 32
  pub templates : AllByRecursion (λ (b : Binding). IsTemplate b.template) bindings
  pub apart : AreRoutesApart bindings
  pub methods : distinct_count bytes_eq (map (λ (b : Binding). b.method) bindings) ≤ 64

-- a router holds the methods of these bindings in order, and the number of each binding's method
pub record HoldsMethodsOf (router : Router) (bindings : List Binding) : Type 0 where
  pub methods : router.methods ≡ methods_of bindings
  pub numbers : AreNumbersOf (methods_of bindings) bindings router.numbers

-- a router that stands for these bindings: what it holds is theirs. It is had from `build`.
pub record IsRouterOf (router : Router) (bindings : List Binding) : Type 0 where
  pub routable : AreRoutable bindings
  pub holds : HoldsMethodsOf router bindings
