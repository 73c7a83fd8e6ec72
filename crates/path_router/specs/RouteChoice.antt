-- Which binding is chosen for a request among those whose templates fit its path (AIP-127, google/api/http.proto).
-- The standards leave the choice among several to the server: the order below is this product's.
use Rattle.std.specs.Prelude.{◌≡◌, ◌≢◌, ◌<◌, ◌↔◌, ◌⊎◌, ℕ, List, map, codes, slice_get, Some, if◌then◌else◌}
use Rattle.std.specs.Int.{bit_at}
use Rattle.std.specs.Str.{bytes_eq}
use Rattle.http_rules.specs.TemplateMatch.{Fits, Matches}
use Rattle.http_rules.specs.TemplateOrder.{IsTemplateBefore}
use Rattle.http_rules.specs.declared.template.Binding.{Binding}
use Rattle.path_router.specs.BindingMethods.{methods_of}
use Rattle.path_router.specs.declared.captures.Span.{Span}
use Rattle.path_router.specs.declared.routed.Routed.{Routed}
use Rattle.path_router.specs.declared.routed.Routed.TheVariants.{Found, WrongMethod, NotFound}

-- the method of a binding that takes every method
abbrev pub every_method : List ℕ
every_method = codes "*"

-- a binding serves a method: its own is that one, or `*`
abbrev pub Serves : List ℕ → Binding → Type 0
Serves method b = (b.method ≡ method) ⊎ (b.method ≡ every_method)

-- the place of a binding by its method: one of exactly the request's method, then one of `*`
abbrev pub method_rank : List ℕ → Binding → ℕ
method_rank method b = if bytes_eq b.method method then 0 else 1

-- a binding precedes another for a request of this method: by their methods, and where these decide nothing by
-- their templates
abbrev pub Precedes : List ℕ → Binding → Binding → Type 0
Precedes method b c =
    (method_rank method b < method_rank method c)
    ⊎ ((method_rank method b ≡ method_rank method c) × IsTemplateBefore b.template c.template)

-- the offsets of a span
abbrev pub ends_of : Span → ℕ × ℕ
ends_of s = (s.from, s.to)

-- the binding of this index serves the method and fits the path, and it precedes every other binding that serves the
-- method and fits
pub record IsFirst (bindings : List Binding) (method path : List ℕ) (index : ℕ) (binding : Binding) : Type 0 where
  pub binding_is : slice_get bindings index ≡ Some binding
  pub serves : Serves method binding
  pub fits : Fits binding.template path
  pub precedes : (i : ℕ) (other : Binding) → slice_get bindings i ≡ Some other → i ≢ index → Serves method other
      → Fits other.template path → Precedes method binding other

-- found: the binding of this index is the first, and its variables take these spans
pub record IsFound (bindings : List Binding) (method path : List ℕ) (index : ℕ) (spans : List Span) : Type 0 where
  pub binding : Binding
  pub first : IsFirst bindings method path index binding
  pub matches : Matches binding.template path (map ends_of spans)

-- no binding that fits the path serves the method
abbrev pub IsUnserved : List Binding → List ℕ → List ℕ → Type 0
IsUnserved bindings method path =
    (i : ℕ) (b : Binding) → slice_get bindings i ≡ Some b → Serves method b → Fits b.template path → ⊥

-- a binding whose template fits the path
pub record SomeFits (bindings : List Binding) (path : List ℕ) : Type 0 where
  pub index : ℕ
  pub binding : Binding
  pub binding_is : slice_get bindings index ≡ Some binding
  pub fits : Fits binding.template path

-- the method of this number, among those of all bindings in the order of their bytes, is that of a binding whose
-- template fits the path
abbrev pub IsMethodThatFits : List Binding → List ℕ → ℕ → Type 0
IsMethodThatFits bindings path number =
    (fit : SomeFits bindings path) × (slice_get (methods_of bindings) number ≡ Some fit.binding.method)

-- the wrong method: some binding fits the path, none of those that fit serves the method, and exactly the bits of
-- their methods' numbers are set
pub record IsWrongMethod (bindings : List Binding) (method path : List ℕ) (bits : ℕ) : Type 0 where
  pub some : SomeFits bindings path
  pub unserved : IsUnserved bindings method path
  pub numbers : (i : ℕ) → (bit_at bits i ≡ 1) ↔ IsMethodThatFits bindings path i

-- not found: no binding fits the path
abbrev pub IsNotFound : List Binding → List ℕ → Type 0
IsNotFound bindings path = (i : ℕ) (b : Binding) → slice_get bindings i ≡ Some b → Fits b.template path → ⊥

-- the answer to a request of this method and path
abbrev pub IsChoice : List Binding → List ℕ → List ℕ → Routed → Type 0
IsChoice bindings method path (Found index spans) = IsFound bindings method path index spans
IsChoice bindings method path (WrongMethod bits) = IsWrongMethod bindings method path bits
IsChoice bindings method path NotFound = IsNotFound bindings path
