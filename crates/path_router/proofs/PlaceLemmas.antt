-- What a search of rising texts finds.
use denote.Ref.{Bor}
use Rattle.std.proofs.Common.{◌≡◌, ◌<◌, ◌≤◌, inl, inr, ◌+◌, ℕ, zero, suc, false, List, [], ◌∷◌, length, map, insert, get_or, slice_get, Some, Result, Ok, Err, IfOk, IfErr, OnErr, refl, ap, ◌∙◌, subst, arith}
use Rattle.std.proofs.lemmas.Bool.{cases_lt}
use Rattle.std.proofs.lemmas.Cmp.{nat_list_cmp_total}
use Rattle.std.proofs.lemmas.List.Sorted.{searchable_from_sorted}
use Rattle.std.proofs.lemmas.Map.Lookups.{exact_bytes}
use Rattle.std.specs.List.Sorted.{IsBinarySearchResult, IsNonDecreasingBy, IsSearchInRange}
use Rattle.std.specs.Ordering.{is_lt, match_ordering, ordering_index}
use Rattle.std.specs.declared.cmp.Ordering.TheVariants.{Less, Equal, Greater}
use Rattle.path_router.specs.BindingMethods.{AreRising, with_method}
use Rattle.path_router.proofs.MethodLemmas.{above_turned, below_turned, order, same_order}

-- ---- what a search of borrowed texts finds

-- what is borrowed
abbrev pub texts_of : List (Bor (List ℕ)) → List (List ℕ)
texts_of ms = map (λ m. m.now) ms

next_above : (ms : List (Bor (List ℕ))) (k : ℕ) (d : Bor (List ℕ)) → AreRising (texts_of ms) → suc k < length ms
    → is_lt (order (get_or ms (suc k) d).now (get_or ms k d).now) ≡ false
next_above [] k d r h = absurd (omega arith)
next_above (x ∷ []) k d r h = absurd (omega arith)
next_above (x ∷ y ∷ ms) zero d r h = ap is_lt (below_turned x.now y.now r.0.0)
next_above (x ∷ y ∷ ms) (suc k) d r h = next_above (y ∷ ms) k d r.1 (omega arith)

-- rising texts can be searched
pub searchable : (ms : List (Bor (List ℕ))) (m : List ℕ) → AreRising (texts_of ms)
    → IsNonDecreasingBy (λ (y : Bor (List ℕ)). ordering_index (order y.now m)) ms
searchable ms m r =
    searchable_from_sorted nat_list_cmp_total (λ (y : Bor (List ℕ)). y.now) ms m
    (λ k d l h. let on : suc k ≡ k + 1 = omega arith in
    subst (λ j. is_lt (order (get_or ms j d).now (get_or ms k d).now) ≡ false) on
    (next_above ms k d r (omega (arith, h))))

-- a text that compares as equal is the method
pub found_at : (ms : List (Bor (List ℕ))) (m : List ℕ) (i : ℕ) → i < length ms
    → ((d : Bor (List ℕ)) → order (get_or ms i d).now m ≡ Equal) → slice_get (texts_of ms) i ≡ Some m
found_at [] m i h e = absurd (omega arith)
found_at (x ∷ ms) m zero h e = ap Some (exact_bytes x.now m (e x))
found_at (x ∷ ms) m (suc i) h e = found_at ms m i (omega arith) e

-- no text is the method, where those before an index are below it and the others above
pub not_there : (ms : List (Bor (List ℕ))) (m : List ℕ) (i k : ℕ)
    → ((k : ℕ) (d : Bor (List ℕ)) → k < i → order (get_or ms k d).now m ≡ Less)
    → ((k : ℕ) (d : Bor (List ℕ)) → i ≤ k → k < length ms → order (get_or ms k d).now m ≡ Greater)
    → slice_get (texts_of ms) k ≡ Some m → ⊥
not_there [] m i k low high e = absurd (cc (e))
not_there (x ∷ ms) m i zero low high e =
    let same : x.now ≡ m = cc (e) in
    let equal : order x.now m ≡ Equal = subst (λ z. order x.now z ≡ Equal) same (same_order x.now) in
    elim (cases_lt 0 i) [
      | inl less ↦ (let l = low 0 x less in absurd (cc (l, equal)))
      | inr more ↦
          (let g = high 0 x more (omega arith) in absurd (cc (g, equal)))
    ]
not_there (x ∷ ms) m zero (suc k) low high e =
    not_there ms m zero k (λ j d l. absurd (omega (arith, l)))
    (λ j d l h. high (suc j) d (omega (arith, l)) (omega (arith, h))) e
not_there (x ∷ ms) m (suc i) (suc k) low high e =
    not_there ms m i k (λ j d l. low (suc j) d (omega (arith, l)))
    (λ j d l h. high (suc j) d (omega (arith, l)) (omega (arith, h))) e

-- a method that is not there goes between those below it and those above it
pub put_there : (ms : List (Bor (List ℕ))) (m : List ℕ) (i : ℕ) → i ≤ length ms
    → ((k : ℕ) (d : Bor (List ℕ)) → k < i → order (get_or ms k d).now m ≡ Less)
    → ((k : ℕ) (d : Bor (List ℕ)) → i ≤ k → k < length ms → order (get_or ms k d).now m ≡ Greater)
    → with_method (texts_of ms) m ≡ insert (texts_of ms) i m
put_there [] m zero h low high = refl
put_there [] m (suc i) h low high = absurd (omega arith)
put_there (x ∷ ms) m zero h low high =
    ap (λ o. match_ordering o (m ∷ x.now ∷ texts_of ms) (x.now ∷ texts_of ms) (x.now ∷ with_method (texts_of ms) m))
    (above_turned x.now m (high zero x (omega arith) (omega arith)))
put_there (x ∷ ms) m (suc i) h low high =
    ap (λ o. match_ordering o (m ∷ x.now ∷ texts_of ms) (x.now ∷ texts_of ms) (x.now ∷ with_method (texts_of ms) m))
    (below_turned x.now m (low zero x (omega arith)))
    ∙ ap (λ z. x.now ∷ z)
    (put_there ms m i (omega arith) (λ k d l. low (suc k) d (omega (arith, l)))
    (λ k d l g. high (suc k) d (omega (arith, l)) (omega (arith, g))))

-- what is put among borrowed texts is put among texts
pub texts_inserted : (ms : List (Bor (List ℕ))) (i : ℕ) (m : Bor (List ℕ))
    → texts_of (insert ms i m) ≡ insert (texts_of ms) i m.now
texts_inserted ms zero m = refl
texts_inserted [] (suc i) m = refl
texts_inserted (x ∷ ms) (suc i) m = ap (λ z. x.now ∷ z) (texts_inserted ms i m)

-- what a search of rising texts tells
pub record IsPlace (ms : List (Bor (List ℕ))) (m : List ℕ) (r : Result ℕ ℕ) : Type 0 where
  pub found : IfOk r (λ i. slice_get (texts_of ms) i ≡ Some m)
  pub absent : OnErr r ((i : ℕ) → slice_get (texts_of ms) i ≡ Some m → ⊥)
  pub put : IfErr r (λ i. (i ≤ length ms) × (with_method (texts_of ms) m ≡ insert (texts_of ms) i m))

-- what a binary search of rising texts answers
pub place_told : (ms : List (Bor (List ℕ))) (m : List ℕ) (r : Result ℕ ℕ) → AreRising (texts_of ms)
    → IsSearchInRange r (length ms)
    → IsBinarySearchResult (λ (y : Bor (List ℕ)). order y.now m) ms r → IsPlace ms m r
place_told ms m (Ok i) a b s = record { found = found_at ms m i b s; absent = tt; put = tt }
place_told ms m (Err i) a b s =
    let p = s (searchable ms m a) in
    let low : (k : ℕ) (d : Bor (List ℕ)) → k < i → order (get_or ms k d).now m ≡ Less =
    λ k d l. p.0 k d (omega arith) l in
    record { found = tt; absent = λ k e. not_there ms m i k low p.1 e; put = (b, put_there ms m i b low p.1) }
