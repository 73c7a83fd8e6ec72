-- What a linked API gives of its bindings.
use Rattle.std.proofs.Common.{◌≡◌, ℕ, List, [], ◌∷◌, Some, length, slice_get, refl, sym, ap, subst, zero, suc}
use Rattle.std.specs.List.{AllByRecursion}
use Rattle.http_rules.specs.Routes.{AreRoutesApart, IsSameRoute}
use Rattle.http_rules.specs.declared.template.Binding.{Binding}
use Rattle.http_rules.specs.declared.template.Variable.{Variable}
use Rattle.linked_api.specs.LinkedApi.{EachLeadsToLeaf, IsBindingOf, IsLinked, IsMethodOf}
use Rattle.linked_api.specs.NumberPaths.{IsServable, NumbersLeadToLeaf}
use Rattle.linked_api.specs.declared.api.Api.{Api}
use Rattle.linked_api.specs.declared.api.MethodInfo.{MethodInfo}
use Rattle.message_types.specs.declared.messages.TypeId.{TypeId}
use Rattle.message_types.specs.declared.messages.Types.{Types}
use Rattle.linked_api.proofs.PathLemmas.{leads_alone}

-- what holds of each item holds of the one at an index
each_at : {X : Type 0} (P : X → Type 0) (xs : List X) (i : ℕ) (x : X) → AllByRecursion P xs
    → slice_get xs i ≡ Some x → P x
each_at P [] i x h e = absurd (cc e)
each_at P (y ∷ xs) zero x h e = let same : y ≡ x = cc e in subst P same h.0
each_at P (y ∷ xs) (suc i) x h e = each_at P xs i x h.1 e

-- there is a path for each variable
one_each : (types : Types) (id : TypeId) (vs : List Variable) (ps : List (List ℕ)) → EachLeadsToLeaf types id vs ps
    → length ps ≡ length vs
one_each types id [] [] h = refl
one_each types id [] (p ∷ ps) h = absurd h
one_each types id (v ∷ vs) [] h = absurd h
one_each types id (v ∷ vs) (p ∷ ps) h = ap (λ (n : ℕ). suc n) (one_each types id vs ps h.1)

-- each path leads by its numbers alone
each_alone : (types : Types) (id : TypeId) (vs : List Variable) (ps : List (List ℕ)) → EachLeadsToLeaf types id vs ps
    → AllByRecursion (NumbersLeadToLeaf types id) ps
each_alone types id [] [] h = tt
each_alone types id [] (p ∷ ps) h = absurd h
each_alone types id (v ∷ vs) [] h = absurd h
each_alone types id (v ∷ vs) (p ∷ ps) h = (leads_alone types id v.path p h.0, each_alone types id vs ps h.1)

-- a binding of a linked API is one of it
pub linked_binding_of : (api : Api) (i : ℕ) (b : Binding) → IsLinked api → slice_get api.bindings i ≡ Some b
    → IsBindingOf api b
linked_binding_of api i b linked e = each_at (IsBindingOf api) api.bindings i b linked.bindings e

-- and so is a method
pub linked_method_of : (api : Api) (i : ℕ) (m : MethodInfo) → IsLinked api → slice_get api.methods i ≡ Some m
    → IsMethodOf api.types m
linked_method_of api i m linked e = each_at (IsMethodOf api.types) api.methods i m linked.methods e

-- a binding of a linked API is servable
pub linked_servable : (api : Api) (i : ℕ) (b : Binding) → IsLinked api → slice_get api.bindings i ≡ Some b
    → IsServable api b
linked_servable api i b linked e =
    let is = linked_binding_of api i b linked e in
    let method = linked_method_of api b.call is.method linked is.method_is in
    record {
      method = is.method;
      method_is = is.method_is;
      input = method.input;
      output = method.output;
      one_each = one_each api.types is.method.input b.template.variables b.paths is.paths;
      paths = each_alone api.types is.method.input b.template.variables b.paths is.paths;
      body = is.body;
      response = is.response;
    }

-- no later binding is one route with the first
apart_first : (a b : Binding) (bs : List Binding) (i : ℕ) → AreRoutesApart (a ∷ bs) → slice_get bs i ≡ Some b
    → IsSameRoute a b → ⊥
apart_first a b bs i h e same = each_at (λ (c : Binding). IsSameRoute a c → ⊥) bs i b h.0 e same

-- bindings that are one route stand at one index
apart_at : (bs : List Binding) (i j : ℕ) (a b : Binding) → AreRoutesApart bs → slice_get bs i ≡ Some a
    → slice_get bs j ≡ Some b → IsSameRoute a b → i ≡ j
apart_at [] i j a b h e k same = absurd (cc e)
apart_at (c ∷ bs) zero zero a b h e k same = refl
apart_at (c ∷ bs) zero (suc j) a b h e k same =
    let is : a ≡ c = cc e in
    absurd (apart_first c b bs j h k (subst (λ (x : Binding). IsSameRoute x b) is same))
apart_at (c ∷ bs) (suc i) zero a b h e k same =
    let is : b ≡ c = cc k in
    absurd (apart_first c a bs i h e
    (subst (λ (x : Binding). IsSameRoute x a) is (sym same.0, (sym same.1.0, sym same.1.1))))
apart_at (c ∷ bs) (suc i) (suc j) a b h e k same = ap (λ (n : ℕ). suc n) (apart_at bs i j a b h.1 e k same)

-- so no two bindings of a linked API are one route
pub linked_apart_at : (api : Api) (i j : ℕ) (a b : Binding) → IsLinked api → slice_get api.bindings i ≡ Some a
    → slice_get api.bindings j ≡ Some b → IsSameRoute a b → i ≡ j
linked_apart_at api i j a b linked e k same = apart_at api.bindings i j a b linked.routes e k same
