-- Bindings that repeat a route, and the faults that they are.
use Rattle.std.proofs.Common.{arith, ◌≡◌, ◌<◌, ◌++◌, ℕ, zero, suc, Bool, true, false, cond, List, [], ◌∷◌, Some, None, find, length, slice_get, refl, sym, ap, subst, ◌∙◌}
use Rattle.std.specs.List.{AllByRecursion, flat_map}
use Rattle.base.proofs.EachLemmas.{each_joined}
use Rattle.http_rules.specs.Routes.{is_same_route, repeated, repeated_behind, repeated_routes}
use Rattle.http_rules.specs.declared.template.Binding.{Binding}
use Rattle.linked_api.specs.declared.api.MethodInfo.{MethodInfo}
use Rattle.schema_link.specs.LinkAnswers.{route_fault, route_faults}
use Rattle.set_faults.specs.LinkFaults.{IsFirst}
use Rattle.set_faults.specs.declared.fault.LinkFault.{LinkFault}
use Rattle.set_faults.specs.declared.fault.LinkFault.TheVariants.{At}
use Rattle.set_faults.specs.declared.fault.LinkKind.TheVariants.{SameRoute}

-- a property of all bindings is one of both of a pair
abbrev pub Both : (Binding → Type 0) → Binding × Binding → Type 0
Both P p = P p.0 × P p.1

module _ (P : Binding → Type 0) where
  -- what is found behind another one
  repeated_each : (test : Binding → Bool) (before : List Binding) (b : Binding) → AllByRecursion P before → P b
      → AllByRecursion (Both P) (repeated (find test before) b)
  repeated_each test [] b h p = tt
  repeated_each test (a ∷ before) b (q, h) p = pick (test a) (repeated_each test before b h p)
    where
      pick : (c : Bool) → AllByRecursion (Both P) (repeated (find test before) b)
          → AllByRecursion (Both P) (repeated (cond c (Some a) (find test before)) b)
      pick true rest = ((q, p), tt)
      pick false rest = rest

  behind_each : (before bs : List Binding) → AllByRecursion P before → AllByRecursion P bs
      → AllByRecursion (Both P) (repeated_behind before bs)
  behind_each before [] h g = tt
  behind_each before (b ∷ bs) h (p, g) =
      each_joined (Both P) (repeated (find (λ a. is_same_route a b) before) b) (repeated_behind (before ++ b ∷ []) bs)
      (repeated_each (λ a. is_same_route a b) before b h p)
      (behind_each (before ++ b ∷ []) bs (each_joined P before (b ∷ []) h (p, tt)) g)

  -- bindings that repeat a route are of the list
  pub routes_each : (bs : List Binding) → AllByRecursion P bs → AllByRecursion (Both P) (repeated_routes bs)
  routes_each bs h = behind_each [] bs tt h

-- an item is there at an index below the length
pub item_there : {A : Type 0} (xs : List A) (k : ℕ) → k < length xs → (x : A) × (slice_get xs k ≡ Some x)
item_there [] k h = absurd (omega (arith, h))
item_there (x ∷ xs) zero h = (x, refl)
item_there (x ∷ xs) (suc k) h = item_there xs k (omega (arith, h))

-- the fault of two bindings whose methods are there
pub fault_there : (methods : List MethodInfo) (a b : Binding) → a.call < length methods → b.call < length methods
    → (m : MethodInfo) × (n : MethodInfo) × (slice_get methods a.call ≡ Some m) × (slice_get methods b.call ≡ Some n)
    × (route_fault (slice_get methods a.call) (slice_get methods b.call) ≡ At SameRoute m.path n.path ∷ [])
fault_there methods a b h g =
    let first = item_there methods a.call h in
    let second = item_there methods b.call g in (
      first.0,
      second.0,
      first.1,
      second.1,
      ap (λ o. route_fault o (slice_get methods b.call)) first.1 ∙ ap (λ o. route_fault (Some first.0) o) second.1,
    )

-- where no binding is a fault, none repeats a route
pub no_fault_no_repeat : (methods : List MethodInfo) (bs : List Binding)
    → AllByRecursion (λ (b : Binding). b.call < length methods) bs
    → route_faults methods bs ≡ [] → repeated_routes bs ≡ []
no_fault_no_repeat methods bs below none = pick (repeated_routes bs)
    (routes_each (λ (b : Binding). b.call < length methods) bs below) none
  where
    pick : (ps : List (Binding × Binding)) → AllByRecursion (Both (λ (b : Binding). b.call < length methods)) ps
        → flat_map (λ (p : Binding × Binding). route_fault (slice_get methods p.0.call)
        (slice_get methods p.1.call)) ps ≡ [] → ps ≡ []
    pick [] h k = refl
    pick (p ∷ ps) (h, rest) k =
        let there = fault_there methods p.0 p.1 h.0 h.1 in
        let first : At SameRoute (there.0).path (there.1).path ∷ flat_map
        (λ (p : Binding × Binding). route_fault (slice_get methods p.0.call) (slice_get methods p.1.call)) ps ≡ [] =
        ap (λ z. z ++ flat_map (λ (p : Binding × Binding). route_fault (slice_get methods p.0.call)
        (slice_get methods p.1.call)) ps) (sym there.4) ∙ k in
        absurd (cc first)

-- the faults of pairs
abbrev pub pair_faults : List MethodInfo → List (Binding × Binding) → List LinkFault
pair_faults methods ps = flat_map (λ (p : Binding × Binding). route_fault (slice_get methods p.0.call)
    (slice_get methods p.1.call)) ps

-- the methods of the first pair are there
pub pair_below : (methods : List MethodInfo) (bs : List Binding) (a b : Binding)
    → Some (a, b) ≡ slice_get (repeated_routes bs) 0
    → AllByRecursion (λ (b : Binding). b.call < length methods) bs
    → (a.call < length methods) × (b.call < length methods)
pair_below methods bs a b h below = pick (repeated_routes bs)
    (routes_each (λ (b : Binding). b.call < length methods) bs below) h
  where
    pick : (ps : List (Binding × Binding)) → AllByRecursion (Both (λ (b : Binding). b.call < length methods)) ps
        → Some (a, b) ≡ slice_get ps 0
        → (a.call < length methods) × (b.call < length methods)
    pick [] all k = absurd (cc k)
    pick (p ∷ ps) (both, all) k = let same : (a, b)
        ≡ p = cc k in subst (Both (λ (b : Binding). b.call < length methods)) (sym same) both

-- the fault of the first pair is the first of all
pub pair_first : (methods : List MethodInfo) (bs : List Binding) (a b : Binding) (e : LinkFault)
    → Some (a, b) ≡ slice_get (repeated_routes bs) 0
    → ((rest : List LinkFault) → IsFirst e (route_fault (slice_get methods a.call) (slice_get methods b.call) ++ rest))
    → IsFirst e (route_faults methods bs)
pair_first methods bs a b e h first = pick (repeated_routes bs) h
  where
    pick : (ps : List (Binding × Binding)) → Some (a, b) ≡ slice_get ps 0 → IsFirst e (pair_faults methods ps)
    pick [] k = absurd (cc k)
    pick (p ∷ ps) k =
        let same : (a, b) ≡ p = cc k in
        subst (λ (q : Binding × Binding). IsFirst e
        (route_fault (slice_get methods q.0.call) (slice_get methods q.1.call) ++ pair_faults methods ps)) same
        (first (pair_faults methods ps))

-- without a pair there is no fault
pub no_pair : (methods : List MethodInfo) (bs : List Binding) → None ≡ slice_get (repeated_routes bs) 0
    → route_faults methods bs ≡ []
no_pair methods bs h = pick (repeated_routes bs) h
  where
    pick : (ps : List (Binding × Binding)) → None ≡ slice_get ps 0 → pair_faults methods ps ≡ []
    pick [] k = refl
    pick (p ∷ ps) k = absurd (cc k)
