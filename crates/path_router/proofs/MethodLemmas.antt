-- The methods of bindings rise in the order of their bytes, and are those that the bindings have.
use Rattle.std.proofs.Common.{◌≡◌, ◌<◌, ◌↔◌, ◌⊎◌, inl, inr, ◌++◌, ℕ, zero, suc, true, List, [], ◌∷◌, slice_get, Some, refl, sym, ap, ◌∙◌, subst, arith}
use Rattle.std.proofs.lemmas.Bool.{cases_order}
use Rattle.std.proofs.lemmas.Cmp.{nat_list_cmp_total}
use Rattle.std.proofs.lemmas.List.Sums.{fold-append}
use Rattle.std.proofs.lemmas.Map.Lookups.{exact_bytes}
use Rattle.std.proofs.lemmas.Map.Text.{is_eq-slice_cmp}
use Rattle.std.proofs.lemmas.Slice.Eq.{bytes_eq-Decides}
use Rattle.std.specs.Cmp.Lexicographic.{slice_cmp}
use Rattle.std.specs.List.{AllByRecursion, fold}
use Rattle.std.specs.Ordering.{is_eq, match_ordering, nat_cmp, ordering_reverse}
use Rattle.std.specs.declared.cmp.Ordering.{Ordering}
use Rattle.std.specs.declared.cmp.Ordering.TheVariants.{Less, Equal, Greater}
use Rattle.base.proofs.EachLemmas.{each_weaker}
use Rattle.http_rules.specs.declared.template.Binding.{Binding}
use Rattle.path_router.specs.BindingMethods.{AreRising, methods_of, with_method}
use Rattle.path_router.proofs.ChoiceLemmas.{each_at}

-- ---- the order of bytes

-- the order of two texts
abbrev pub order : List ℕ → List ℕ → Ordering
order m n = slice_cmp nat_cmp m n

-- a text that is below another has it above
pub below_turned : (m n : List ℕ) → order m n ≡ Less → order n m ≡ Greater
below_turned m n e = nat_list_cmp_total.antisymm n m ∙ ap ordering_reverse e

-- a text that is above another has it below
pub above_turned : (m n : List ℕ) → order m n ≡ Greater → order n m ≡ Less
above_turned m n e = nat_list_cmp_total.antisymm n m ∙ ap ordering_reverse e

same_turned : (m n : List ℕ) → order m n ≡ Equal → order n m ≡ Equal
same_turned m n e = nat_list_cmp_total.antisymm n m ∙ ap ordering_reverse e

-- a text stands alike with itself
pub same_order : (m : List ℕ) → order m m ≡ Equal
same_order m = is_own (order m m) (is_eq-slice_cmp m m ∙ (bytes_eq-Decides m m).1 refl)
  where
    is_own : (o : Ordering) → is_eq o ≡ true → o ≡ Equal
    is_own Less e = absurd (cc (e))
    is_own Equal e = refl
    is_own Greater e = absurd (cc (e))

-- ---- rising methods

each_with : (P : List ℕ → Type 0) (ms : List (List ℕ)) (m : List ℕ) → AllByRecursion P ms → P m
    → AllByRecursion P (with_method ms m)
each_with P [] m a p = (p, tt)
each_with P (n ∷ ns) m a p = pick (each_with P ns m a.1 p) (order m n)
  where
    pick : AllByRecursion P (with_method ns m) → (o : Ordering)
        → AllByRecursion P (match_ordering o (m ∷ n ∷ ns) (n ∷ ns) (n ∷ with_method ns m))
    pick on Less = (p, a)
    pick on Equal = a
    pick on Greater = (a.0, on)

rise_with : (ms : List (List ℕ)) (m : List ℕ) → AreRising ms → AreRising (with_method ms m)
rise_with [] m r = (tt, tt)
rise_with (n ∷ ns) m r = pick (rise_with ns m r.1) (order m n) refl
  where
    pick : AreRising (with_method ns m) → (o : Ordering) → order m n ≡ o
        → AreRising (match_ordering o (m ∷ n ∷ ns) (n ∷ ns) (n ∷ with_method ns m))
    pick on Less e = (
      (
        e,
        each_weaker (λ k. order n k ≡ Less) (λ k. order m k ≡ Less) (λ k h. nat_list_cmp_total.trans m n k e h) ns
            r.0,
      ),
      r,
    )
    pick on Equal e = r
    pick on Greater e = (each_with (λ k. order n k ≡ Less) ns m r.0 (above_turned m n e), on)

rise_fold : (bs : List Binding) (ms : List (List ℕ)) → AreRising ms
    → AreRising (fold (λ ms (b : Binding). with_method ms b.method) ms bs)
rise_fold [] ms r = r
rise_fold (b ∷ bs) ms r = rise_fold bs (with_method ms b.method) (rise_with ms b.method r)

-- the methods of bindings rise
pub methods_rise : (bs : List Binding) → AreRising (methods_of bs)
methods_rise bs = rise_fold bs [] tt

-- of two methods the one of the lower index is below
pub rise_at : (ms : List (List ℕ)) (i j : ℕ) (m n : List ℕ) → AreRising ms → i < j → slice_get ms i ≡ Some m
    → slice_get ms j ≡ Some n → order m n ≡ Less
rise_at [] i j m n r h e f = absurd (cc (e))
rise_at (k ∷ ms) zero zero m n r h e f = absurd (omega arith)
rise_at (k ∷ ms) zero (suc j) m n r h e f = let same : k ≡ m = cc (e) in
    subst (λ z. order z n ≡ Less) same (each_at (λ z. order k z ≡ Less) ms j n r.0 f)
rise_at (k ∷ ms) (suc i) zero m n r h e f = absurd (omega arith)
rise_at (k ∷ ms) (suc i) (suc j) m n r h e f = rise_at ms i j m n r.1 (omega arith) e f

-- ---- which methods there are

-- a list has a text at some index
abbrev pub Has : List (List ℕ) → List ℕ → Type 0
Has ms m = (i : ℕ) × (slice_get ms i ≡ Some m)

behind_has : (k : List ℕ) (ms : List (List ℕ)) (m : List ℕ) → Has ms m → Has (k ∷ ms) m
behind_has k ms m h = (suc h.0, h.1)

-- a list with a method more has that method
own_has : (ms : List (List ℕ)) (m : List ℕ) → Has (with_method ms m) m
own_has [] m = (zero, refl)
own_has (n ∷ ns) m = pick (own_has ns m) (order m n) refl
  where
    pick : Has (with_method ns m) m → (o : Ordering) → order m n ≡ o
        → Has (match_ordering o (m ∷ n ∷ ns) (n ∷ ns) (n ∷ with_method ns m)) m
    pick on Less e = (zero, refl)
    pick on Equal e = (zero, ap Some (sym (exact_bytes m n e)))
    pick on Greater e = behind_has n (with_method ns m) m on

-- and those that it had
old_has : (ms : List (List ℕ)) (m k : List ℕ) → Has ms k → Has (with_method ms m) k
old_has [] m k h = absurd (cc (h.1))
old_has (n ∷ ns) m k (zero, e) = pick (order m n)
  where
    pick : (o : Ordering) → Has (match_ordering o (m ∷ n ∷ ns) (n ∷ ns) (n ∷ with_method ns m)) k
    pick Less = (1, e)
    pick Equal = (zero, e)
    pick Greater = (zero, e)
old_has (n ∷ ns) m k (suc i, e) = pick (old_has ns m k (i, e)) (order m n)
  where
    pick : Has (with_method ns m) k → (o : Ordering)
        → Has (match_ordering o (m ∷ n ∷ ns) (n ∷ ns) (n ∷ with_method ns m)) k
    pick on Less = (suc (suc i), e)
    pick on Equal = (suc i, e)
    pick on Greater = behind_has n (with_method ns m) k on

-- and no others
no_other : (ms : List (List ℕ)) (m k : List ℕ) → Has (with_method ms m) k → (m ≡ k) ⊎ Has ms k
no_other [] m k (zero, e) = inl (cc (e))
no_other [] m k (suc i, e) = absurd (cc (e))
no_other (n ∷ ns) m k h = pick (no_other ns m k) (order m n) h
  where
    front : (i : ℕ) → slice_get (m ∷ n ∷ ns) i ≡ Some k → (m ≡ k) ⊎ Has (n ∷ ns) k
    front zero e = inl (cc (e))
    front (suc i) e = inr (i, e)

    later : (Has (with_method ns m) k → (m ≡ k) ⊎ Has ns k) → (i : ℕ) → slice_get (n ∷ with_method ns m) i ≡ Some k
        → (m ≡ k) ⊎ Has (n ∷ ns) k
    later on zero e = inr (zero, e)
    later on (suc i) e = elim (on (i, e)) [ inl same ↦ inl same | inr old ↦ inr (behind_has n ns k old) ]

    pick : (Has (with_method ns m) k → (m ≡ k) ⊎ Has ns k) → (o : Ordering)
        → Has (match_ordering o (m ∷ n ∷ ns) (n ∷ ns) (n ∷ with_method ns m)) k → (m ≡ k) ⊎ Has (n ∷ ns) k
    pick on Less h = front h.0 h.1
    pick on Equal h = inr h
    pick on Greater h = later on h.0 h.1

-- some binding has a method
abbrev pub IsMethodOf : List Binding → List ℕ → Type 0
IsMethodOf bs m = (i : ℕ) × (b : Binding) × (slice_get bs i ≡ Some b) × (b.method ≡ m)

fold_old : (bs : List Binding) (ms : List (List ℕ)) (m : List ℕ) → Has ms m
    → Has (fold (λ ms (b : Binding). with_method ms b.method) ms bs) m
fold_old [] ms m h = h
fold_old (b ∷ bs) ms m h = fold_old bs (with_method ms b.method) m (old_has ms b.method m h)

fold_own : (bs : List Binding) (ms : List (List ℕ)) (i : ℕ) (b : Binding) → slice_get bs i ≡ Some b
    → Has (fold (λ ms (c : Binding). with_method ms c.method) ms bs) b.method
fold_own [] ms i b e = absurd (cc (e))
fold_own (c ∷ bs) ms zero b e =
    let same : c ≡ b = cc (e) in
    subst (λ (z : Binding). Has (fold (λ ms (c : Binding). with_method ms c.method) ms (c ∷ bs)) z.method) same
    (fold_old bs (with_method ms c.method) c.method (own_has ms c.method))
fold_own (c ∷ bs) ms (suc i) b e = fold_own bs (with_method ms c.method) i b e

fold_no_other : (bs : List Binding) (ms : List (List ℕ)) (m : List ℕ)
    → Has (fold (λ ms (b : Binding). with_method ms b.method) ms bs) m → Has ms m ⊎ IsMethodOf bs m
fold_no_other [] ms m h = inl h
fold_no_other (b ∷ bs) ms m h =
    elim (fold_no_other bs (with_method ms b.method) m h) [
      | inl old ↦ elim (no_other ms b.method m old) [ inl own ↦ inr (zero, b, refl, own) | inr older ↦ inl older ]
      | inr later ↦ inr (suc later.0, later.1, later.2, later.3)
    ]

-- the method of a binding is one of them
pub method_there : (bs : List Binding) (i : ℕ) (b : Binding) → slice_get bs i ≡ Some b → Has (methods_of bs) b.method
method_there bs i b e = fold_own bs [] i b e

-- the methods are those that some binding has
pub methods_exact : (bs : List Binding) (m : List ℕ) → Has (methods_of bs) m ↔ IsMethodOf bs m
methods_exact bs m = (
  (λ h. elim (fold_no_other bs [] m h) [ inl none ↦ absurd (cc (none.1)) | inr some ↦ some ]),
  (λ h. subst (Has (methods_of bs)) h.3 (method_there bs h.0 h.1 h.2)),
)

-- ---- where a method stands

-- one number has a method
pub one_number : (ms : List (List ℕ)) (i j : ℕ) (m : List ℕ) → AreRising ms → slice_get ms i ≡ Some m
    → slice_get ms j ≡ Some m → i ≡ j
one_number ms i j m r e f =
    elim (cases_order i j) [
      | inl same ↦ same
      | inr less ↦ elim less [
        | inl low ↦ absurd (unordered (rise_at ms i j m m r low e f))
        | inr high ↦ absurd (unordered (rise_at ms j i m m r high f e))
      ]
    ]
  where
    unordered : order m m ≡ Less → ⊥
    unordered l = let e = same_order m in absurd (cc (l, e))

-- a method that is there changes nothing
pub found_there : (ms : List (List ℕ)) (m : List ℕ) (i : ℕ) → AreRising ms → slice_get ms i ≡ Some m
    → with_method ms m ≡ ms
found_there [] m i r e = absurd (cc (e))
found_there (n ∷ ns) m zero r e =
    let same : n ≡ m = cc (e) in
    ap (λ o. match_ordering o (m ∷ n ∷ ns) (n ∷ ns) (n ∷ with_method ns m))
    (subst (λ z. order z n ≡ Equal) same (same_order n))
found_there (n ∷ ns) m (suc i) r e =
    let less : order n m ≡ Less = each_at (λ k. order n k ≡ Less) ns i m r.0 e in
    ap (λ o. match_ordering o (m ∷ n ∷ ns) (n ∷ ns) (n ∷ with_method ns m)) (below_turned n m less)
    ∙ ap (λ z. n ∷ z) (found_there ns m i r.1 e)

-- ---- one binding on

-- the methods of bindings and one more
pub methods_more : (bs : List Binding) (b : Binding) → methods_of (bs ++ b ∷ []) ≡ with_method (methods_of bs) b.method
methods_more bs b = fold-append (λ ms (c : Binding). with_method ms c.method) [] bs (b ∷ [])
