-- The search among the first bindings of a list, one binding on.
use Rattle.std.proofs.Common.{◌≡◌, ◌<◌, ◌⊎◌, inl, inr, ◌++◌, ℕ, zero, suc, List, [], ◌∷◌, length, take, slice_get, Option, Some, None, refl, sym, ap, subst, arith}
use Rattle.std.proofs.lemmas.Bool.{cases_eq}
use Rattle.http_rules.specs.Routes.{AreRoutesApart, IsSameRoute}
use Rattle.http_rules.specs.Template.{IsTemplate}
use Rattle.http_rules.specs.TemplateMatch.{Fits}
use Rattle.http_rules.specs.declared.template.Binding.{Binding}
use Rattle.path_router.proofs.OrderLemmas.{transitive}
use Rattle.path_router.proofs.TotalLemmas.{one_precedes}
use Rattle.path_router.proofs.ChoiceLemmas.{HaveTemplates, each_at, one_at}
use Rattle.path_router.specs.RouteChoice.{IsFirst, Precedes, Serves}
use Rattle.path_router.specs.RouteSearch.{IsBest, Leads, TakesOver}

-- ---- items of a list with one item more

-- an item stays at its index
pub still_at : {X : Type 0} (xs ys : List X) (i : ℕ) (x : X) → slice_get xs i ≡ Some x → slice_get (xs ++ ys) i ≡ Some x
still_at [] ys i x e = absurd (cc (e))
still_at (y ∷ xs) ys zero x e = e
still_at (y ∷ xs) ys (suc i) x e = still_at xs ys i x e

-- the item more is at the last index
pub new_at : {X : Type 0} (xs : List X) (x : X) → slice_get (xs ++ x ∷ []) (length xs) ≡ Some x
new_at [] x = refl
new_at (y ∷ xs) x = new_at xs x

-- an item is one of those before, or the item more
pub old_or_new : {X : Type 0} (xs : List X) (x : X) (i : ℕ) (y : X) → slice_get (xs ++ x ∷ []) i ≡ Some y
    → (slice_get xs i ≡ Some y) ⊎ ((i ≡ length xs) × (x ≡ y))
old_or_new [] x zero y e = let same : x ≡ y = cc (e) in inr (refl, same)
old_or_new [] x (suc i) y e = absurd (cc (e))
old_or_new (z ∷ xs) x zero y e = inl e
old_or_new (z ∷ xs) x (suc i) y e =
    elim (old_or_new xs x i y e) [ inl old ↦ inl old | inr new ↦ inr (ap suc new.0, new.1) ]

-- an item is below the length
pub below_length : {X : Type 0} (xs : List X) (i : ℕ) (x : X) → slice_get xs i ≡ Some x → i < length xs
below_length [] i x e = absurd (cc (e))
below_length (y ∷ xs) zero x e = omega arith
below_length (y ∷ xs) (suc i) x e = let on = below_length xs i x e in omega (arith, on)

-- ---- bindings that are not one route

-- bindings of two indexes are not one route
pub apart_at : (bs : List Binding) (i j : ℕ) (a b : Binding) → AreRoutesApart bs → i < j → slice_get bs i ≡ Some a
    → slice_get bs j ≡ Some b → IsSameRoute a b → ⊥
apart_at [] i j a b p h e f = absurd (cc (e))
apart_at (c ∷ bs) zero zero a b p h e f = absurd (omega arith)
apart_at (c ∷ bs) zero (suc j) a b p h e f = let same : c ≡ a = cc (e) in
    subst (λ z. IsSameRoute z b → ⊥) same (each_at (λ d. IsSameRoute c d → ⊥) bs j b p.0 f)
apart_at (c ∷ bs) (suc i) zero a b p h e f = absurd (omega arith)
apart_at (c ∷ bs) (suc i) (suc j) a b p h e f = apart_at bs i j a b p.1 (omega arith) e f

-- ---- one binding on

-- a binding that takes over is the first
pub taken_over : (bindings before : List Binding) (method path : List ℕ) (best : Option ℕ) (b : Binding)
    → ((i : ℕ) (c : Binding) → slice_get before i ≡ Some c → slice_get bindings i ≡ Some c)
    → IsBest before method path best → TakesOver bindings method path best b
    → IsFirst (before ++ b ∷ []) method path (length before) b
taken_over bindings before method path best b all is t = record {
  binding_is = new_at before b;
  serves = t.serves;
  fits = t.fits;
  precedes =
      λ i other e n s f.
      elim (old_or_new before b i other e) [
        | inl old ↦ over best is t.leads i other old s f
        | inr new ↦
            absurd (n new.0)
      ];
}
  where
    over : (best : Option ℕ) → IsBest before method path best → Leads bindings method best b → (i : ℕ) (other : Binding)
        → slice_get before i ≡ Some other → Serves method other → Fits other.template path → Precedes method b other
    over None is l i other e s f = absurd (is i other e s f)
    over (Some j) is l i other e s f =
        let first = is.1 in
        let best_is : l.0 ≡ is.0 = one_at bindings j j l.0 is.0 refl l.1 (all j is.0 first.binding_is) in
        let leads : Precedes method b is.0 = subst (Precedes method b) best_is l.2 in
        elim (cases_eq i j) [
          | inl same ↦ subst (Precedes method b) (one_at before j i is.0 other (sym same) first.binding_is e) leads
          | inr apart ↦ transitive method b is.0 other leads (first.precedes i other e apart s f)
        ]

-- where a binding does not take over, the best so far stays
pub stays_best : (bindings before : List Binding) (method path : List ℕ) (best : Option ℕ) (b : Binding)
    → ((i : ℕ) (c : Binding) → slice_get before i ≡ Some c → slice_get bindings i ≡ Some c)
    → slice_get bindings (length before) ≡ Some b → HaveTemplates bindings → AreRoutesApart bindings
    → IsBest before method path best → (TakesOver bindings method path best b → ⊥)
    → IsBest (before ++ b ∷ []) method path best
stays_best bindings before method path None b all at ts apart is refuses = λ i c e s f.
    elim (old_or_new before b i c e) [
      | inl old ↦ is i c old s f
      | inr new ↦
          refuses (record {
            serves = subst (Serves method) (sym new.1) s;
            fits =
                subst (λ (z : Binding). Fits z.template path) (sym new.1) f;
            leads = tt;
          })
    ]
stays_best bindings before method path (Some j) b all at ts apart is refuses =
    let c = is.0 in
    let first = is.1 in
    let there = all j c first.binding_is in
    let ahead : Serves method b → Fits b.template path → Precedes method c b = λ s f.
    elim (one_precedes method path c b (each_at (λ (z : Binding). IsTemplate z.template) bindings j c ts there)
    (each_at (λ (z : Binding). IsTemplate z.template) bindings (length before) b ts at)
    first.serves s first.fits f
    (apart_at bindings j (length before) c b apart (below_length before j c first.binding_is) there at)) [
      | inl own ↦ own
      | inr behind ↦ absurd (refuses (record { serves = s; fits = f; leads = (c, there, behind) }))
    ] in (
      c,
      record {
        binding_is = still_at before (b ∷ []) j c first.binding_is;
        serves = first.serves;
        fits = first.fits;
        precedes = λ i other e n s f.
            elim (old_or_new before b i other e) [
              | inl old ↦ first.precedes i other old n s f
              | inr new ↦
                  subst (Precedes method c) new.1
                  (ahead (subst (Serves method) (sym new.1) s)
                  (subst (λ (z : Binding). Fits z.template path) (sym new.1) f))
            ];
      },
    )

-- an item of the first ones is one of all
pub from_take : {X : Type 0} (n : ℕ) (xs : List X) (i : ℕ) (x : X) → slice_get (take n xs) i ≡ Some x
    → slice_get xs i ≡ Some x
from_take zero xs i x e = absurd (cc (e))
from_take (suc n) [] i x e = absurd (cc (e))
from_take (suc n) (y ∷ xs) zero x e = e
from_take (suc n) (y ∷ xs) (suc i) x e = from_take n xs i x e
