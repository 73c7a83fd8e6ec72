-- Where an index stands among those that are linked, and maps that tell it.
use Rattle.std.proofs.Common.{◌≡◌, ◌<◌, ◌≤◌, ◌+◌, ◌-◌, ◌||◌, ℕ, zero, suc, Bool, true, false, cond, List, [], ◌∷◌, length, drop, get_or, nat_eq, Some, IsSome, refl, sym, ap, subst, ◌∙◌, arith, slice_get}
use Rattle.std.proofs.lemmas.Bool.{eqb-true}
use Rattle.std.proofs.lemmas.Option.{same_Some}
use Rattle.std.specs.List.{list_any}
use Rattle.std.proofs.lemmas.List.{drop_more}
use Rattle.std.specs.BTreeMap as tree
use Rattle.std.specs.BTreeMap.{BTreeMap}
use Rattle.std.specs.Ordering.{nat_cmp}
use Rattle.base.proofs.NumberSetLemmas.{nat_tied}
use Rattle.linked_types.specs.LinkedTypes.{index_from}

-- after the item at an index got that index, the map has the index of each item from there on
pub index_at_more : (indexes : List ℕ) (at : ℕ) (m n : BTreeMap ℕ ℕ) → 0 < at → at ≤ length indexes
    → tree.Updates nat_cmp m n (get_or indexes (at - 1) 0) (Some (at - 1))
    → ((i : ℕ) → tree.get nat_cmp m i ≡ index_from at (drop at indexes) i)
    → (i : ℕ) → tree.get nat_cmp n i ≡ index_from (at - 1) (drop (at - 1) indexes) i
index_at_more indexes at m n some within h held =
    let k = at - 1 in
    let next : k + 1 ≡ at = omega arith in
    let lt : k < length indexes = omega arith in
    let x = get_or indexes k 0 in
    λ i. h.0 i
    ∙ ap (λ b. cond b (Some k) (tree.get nat_cmp m i)) (nat_tied x i)
    ∙ ap (λ z. cond (nat_eq i x) (Some k) z) (held i ∙ ap (λ z. index_from z (drop z indexes) i) (sym next))
    ∙ ap (λ z. index_from k z i) (sym (drop_more indexes k 0 lt))

index_found : (k : ℕ) (xs : List ℕ) (i n : ℕ) → index_from k xs i ≡ Some n
    → (d : ℕ) × (n ≡ k + d) × (slice_get xs d ≡ Some i)
index_found k [] i n h = absurd (cc h)
index_found k (x ∷ xs) i n h = pick (nat_eq i x) refl h (index_found (k + 1) xs i n)
  where
    pick : (b : Bool) → nat_eq i x ≡ b → cond b (Some k) (index_from (k + 1) xs i) ≡ Some n
        → (index_from (k + 1) xs i ≡ Some n → (d : ℕ) × (n ≡ (k + 1) + d) × (slice_get xs d ≡ Some i))
        → (d : ℕ) × (n ≡ k + d) × (slice_get (x ∷ xs) d ≡ Some i)
    pick true e g next =
        let same : k ≡ n = same_Some k n g in
        (zero, omega arith, ap (λ z. Some z) (sym (eqb-true i x e)))
    pick false e g next =
        let rest = next g in
        let at = rest.1 in
        (suc rest.0, omega arith, rest.2)

-- the index that is found stands where it is found
pub index_stands : (xs : List ℕ) (i n : ℕ) → index_from 0 xs i ≡ Some n → slice_get xs n ≡ Some i
index_stands xs i n h =
    let found = index_found 0 xs i n h in
    let at = found.1 in
    let same : found.0 ≡ n = omega arith in
    subst (λ z. slice_get xs z ≡ Some i) same found.2

-- an index that is among some is found
pub index_some : (k : ℕ) (xs : List ℕ) (i : ℕ) → list_any (nat_eq i) xs ≡ true → IsSome (index_from k xs i)
index_some k [] i h = absurd (cc h)
index_some k (x ∷ xs) i h = pick (nat_eq i x) h (index_some (k + 1) xs i)
  where
    pick : (b : Bool) → (b || list_any (nat_eq i) xs) ≡ true
        → (list_any (nat_eq i) xs ≡ true → IsSome (index_from (k + 1) xs i))
        → IsSome (cond b (Some k) (index_from (k + 1) xs i))
    pick true e next = refl
    pick false e next = next e
