-- A binding of an API calls one method.
use Rattle.std.proofs.Common.{◌≡◌, ◌<◌, ◌≤◌, ◌↔◌, ℕ, Bool, false, IsTrue, List, [], ◌∷◌, length, Some, slice_get, sym, ap, ◌∙◌}
use Rattle.std.proofs.lemmas.Option.{slice_get_within}
use Rattle.std.specs.List.{AllByRecursion}
use Rattle.field_binding.specs.PathSettings.{IsCall}
use Rattle.http_rules.specs.Template.{IsTemplate}
use Rattle.http_rules.specs.declared.template.Binding.{Binding}
use Rattle.linked_api.specs.LinkedApi.{IsBindingOf, IsLinked}
use Rattle.linked_api.specs.declared.api.Api.{Api}
use Rattle.linked_api.specs.declared.api.MethodInfo.{MethodInfo}
use Rattle.path_router.specs.RouteChoice.{IsFound}
use Rattle.path_router.specs.declared.captures.Span.{Span}
use Rattle.transcoding.specs.BuiltForms.{IsBuilt}
use Rattle.transcoding.specs.RoutedRequest.{IsMethodNotServed}
use Rattle.transcoding.specs.TranscodingSteps.{IsReady}

-- the method that the binding of an index calls is one
pub one_call : (api : Api) (index : ℕ) (b c : Binding) (m n : MethodInfo) → IsCall api index b m → IsCall api index c n
    → m ≡ n
one_call api index b c m n x y =
    let bindings : Some b ≡ Some c = sym x.binding_is ∙ y.binding_is in
    let same : b ≡ c = cc bindings in
    let methods : Some m ≡ Some n =
    sym x.method_is ∙ ap (λ (z : Binding). slice_get api.methods z.call) same ∙ y.method_is in
    cc methods

-- a method that is tested not to be unserved is served
pub unserved : (method : List ℕ) (r : Bool) → (IsTrue r ↔ IsMethodNotServed method) → r ≡ false
    → IsMethodNotServed method → ⊥
unserved method r h f n = let t = h.1 n in absurd (cc (t, f))

-- the binding that is found is one of the API's
pub found_within : (api : Api) (method path : List ℕ) (index : ℕ) (spans : List Span)
    → IsFound api.bindings method path index spans → index < length api.bindings
found_within api method path index spans f = slice_get_within api.bindings index f.binding f.first.binding_is

-- the spans of what is found can be read by its binding, where the form is built
pub ready_of : (api : Api) (method target path : List ℕ) (index : ℕ) (spans : List Span)
    → ((f : IsFound api.bindings method path index spans)
    → (length spans ≡ length f.binding.template.variables)
    × AllByRecursion (λ (s : Span). (s.from ≤ s.to) × (s.to ≤ length path)) spans)
    → IsFound api.bindings method path index spans → IsBuilt api target index → IsReady api index path spans
ready_of api method target path index spans inside f b =
    let i = inside f in
    record {
      captures = record { binding = f.binding; binding_is = f.first.binding_is; one_each = i.0; inside = i.1 };
      bodyless = b.bodyless;
      scalars = b.scalars;
    }

-- the templates of a linked API can be parsed
pub parsed : (api : Api) → IsLinked api → AllByRecursion (λ (b : Binding). IsTemplate b.template) api.bindings
parsed api l = each api.bindings l.bindings
  where
    each : (bs : List Binding) → AllByRecursion (IsBindingOf api) bs
        → AllByRecursion (λ (b : Binding). IsTemplate b.template) bs
    each [] h = tt
    each (b ∷ bs) h = (h.0.template, each bs h.1)
