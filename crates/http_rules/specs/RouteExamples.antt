-- Worked examples of what is read of a text, and of bindings that are one route (google/api/http.proto).
use Rattle.std.specs.Prelude.{◌≡◌, ℕ, Bool, true, false, List, [], ◌∷◌, map, codes, replicate, Option, Some, None, Result, Ok, Err}
use Rattle.std.specs.List.{flat_map}
use Rattle.http_rules.specs.declared.fault.TemplateFault.{TemplateFault}
use Rattle.http_rules.specs.declared.fault.TemplateFault.TheVariants.{Syntax, TooMany}
use Rattle.http_rules.specs.declared.template.Binding.{Binding}
use Rattle.http_rules.specs.declared.template.Body.TheVariants.{Nothing}
use Rattle.http_rules.specs.declared.template.Segment.TheVariants.{Literal, One, Rest}
use Rattle.http_rules.specs.declared.template.Template.{Template}
use Rattle.http_rules.specs.Routes.{is_same_route, repeated_routes}
use Rattle.http_rules.specs.TemplateReading.{reading}

-- `/v1/{id}`
abbrev pub one_id : Template
one_id = record {
  segments = Literal (codes "v1") ∷ One ∷ [];
  variables = record { path = codes "id" ∷ []; from = 1; to = 2 } ∷ [];
  verb = None;
}

-- `/v1/*`
abbrev pub any_one : Template
any_one = record { segments = Literal (codes "v1") ∷ One ∷ []; variables = []; verb = None }

-- `/v1/*:go`
abbrev pub any_one_goes : Template
any_one_goes = record any_one { verb = Some (codes "go") }

-- `/v1/**`
abbrev pub all_behind : Template
all_behind = record { segments = Literal (codes "v1") ∷ Rest ∷ []; variables = []; verb = None }

-- `/{a.b=x/*/**}:v`
abbrev pub long_range : Template
long_range = record {
  segments = Literal (codes "x") ∷ One ∷ Rest ∷ [];
  variables = record { path = codes "a" ∷ codes "b" ∷ []; from = 0; to = 3 } ∷ [];
  verb = Some (codes "v");
}

-- so many times a text
abbrev pub repeated_text : ℕ → List ℕ → List ℕ
repeated_text n text = flat_map (λ (i : ℕ). text) (replicate n 0)

-- a template is read, and each fault where it stands: a variable within a variable, a segment behind `**`, no slash, no
-- segment behind a slash, and over 64 segments or 16 variables
pub record ReadingExamplesHold : Type 0 where
  pub variable : reading (codes "/v1/{id}") ≡ Ok one_id
  pub spelled_out : reading (codes "/v1/{id=*}") ≡ Ok one_id
  pub wildcard : reading (codes "/v1/*") ≡ Ok any_one
  pub verb : reading (codes "/v1/*:go") ≡ Ok any_one_goes
  pub rest : reading (codes "/v1/**") ≡ Ok all_behind
  pub range : reading (codes "/{a.b=x/*/**}:v") ≡ Ok long_range
  pub variable_inside : reading (codes "/v1/{a=x/{b}}") ≡ Err (Syntax 9)
  pub behind_rest : reading (codes "/v1/**/a") ≡ Err (Syntax 6)
  pub no_slash : reading (codes "v1") ≡ Err (Syntax 0)
  pub nothing : reading [] ≡ Err (Syntax 0)
  pub no_segment : reading (codes "/v1/") ≡ Err (Syntax 4)
  pub segments : reading (repeated_text 65 (codes "/*")) ≡ Err TooMany
  pub variables : reading (repeated_text 17 (codes "/{a}")) ≡ Err TooMany

-- a binding of this HTTP method to a template, which calls the method of this index
abbrev pub bound : List ℕ → Template → ℕ → Binding
bound method template call = record {
  method = method;
  template = template;
  paths = [];
  body = Nothing;
  response = None;
  call = call;
}

-- whether bindings of GET to what is read are one route, where two templates are read
abbrev pub are_read_one_route : Result Template TemplateFault → Result Template TemplateFault → Option Bool
are_read_one_route (Ok t) (Ok u) = Some (is_same_route (bound (codes "GET") t 0) (bound (codes "GET") u 1))
are_read_one_route (Ok t) (Err e) = None
are_read_one_route (Err e) r = None

-- whether bindings of GET to these texts are one route, where both texts are templates
abbrev pub are_one_route : List ℕ → List ℕ → Option Bool
are_one_route a b = are_read_one_route (reading a) (reading b)

-- the methods that a pair of bindings calls
abbrev pub calls_of : Binding × Binding → ℕ × ℕ
calls_of p = (p.0.call, p.1.call)

-- five bindings: the first, the fourth and the fifth are one route
abbrev pub five_bindings : List Binding
five_bindings =
    bound (codes "GET") one_id 0
    ∷ bound (codes "GET") any_one_goes 1
    ∷ bound (codes "POST") any_one 2
    ∷ bound (codes "GET") one_id 3
    ∷ bound (codes "GET") any_one 4
    ∷ []

-- variables are no matter to a route; its verb, its segments and its method are. A text that is no template has no
-- route. Each binding that repeats a route stands behind the earliest one.
pub record RouteExamplesHold : Type 0 where
  pub spelled_out : are_one_route (codes "/v1/{id}") (codes "/v1/{id=*}") ≡ Some true
  pub without_variable : are_one_route (codes "/v1/{id}") (codes "/v1/*") ≡ Some true
  pub verb : are_one_route (codes "/v1/*:go") (codes "/v1/*") ≡ Some false
  pub wildcard : are_one_route (codes "/v1/*") (codes "/v1/**") ≡ Some false
  pub no_template : are_one_route (codes "v1") (codes "v1") ≡ None
  pub method : is_same_route (bound (codes "GET") any_one 0) (bound (codes "POST") any_one 1) ≡ false
  pub earliest : map calls_of (repeated_routes five_bindings) ≡ (0, 3) ∷ (0, 4) ∷ []
