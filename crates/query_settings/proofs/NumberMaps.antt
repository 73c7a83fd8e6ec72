-- What a map from lists of numbers has after a number was put under one.
use Rattle.std.proofs.Common.{◌≡◌, ◌∙◌, ℕ, Bool, true, false, cond, List, Option, Some, refl, sym, subst}
use Rattle.std.specs.Cmp.Lexicographic.{nat_list_cmp_total, nat_list_eq_equiv}
use Rattle.std.specs.Cmp.{eq_by_cmp_equiv}
use Rattle.std.proofs.lemmas.Map.Text.{is_eq-slice_cmp}
use Rattle.std.proofs.lemmas.Slice.Eq.{bytes_eq-Decides}
use Rattle.std.specs.BTreeMap as tree
use Rattle.std.specs.Cmp.Lexicographic.{slice_cmp}
use Rattle.std.specs.Map.{AreApart, IsKeyTest, KeepsOthers, lookup}
use Rattle.std.specs.Ordering.{eq_by_cmp, is_eq, nat_cmp}
use Rattle.std.specs.Str.{bytes_eq}
use Rattle.std.specs.declared.alloc.Global.{Global}
use Rattle.std.specs.declared.vec.Vec.{Vec}
use Rattle.query_settings.specs.QuerySteps.{NumberMap, number_at}

-- how lists of numbers are ordered
abbrev pub vec_cmp : Vec ℕ Global → Vec ℕ Global → Rattle.std.specs.declared.cmp.Ordering.Ordering
vec_cmp x y = slice_cmp nat_cmp x.items y.items

others : {X : Type 0} (test : Vec ℕ Global → Bool) (old new : List (Vec ℕ Global × X))
    → KeepsOthers (eq_by_cmp vec_cmp) test old new → (other : Vec ℕ Global → Bool)
    → IsKeyTest (eq_by_cmp vec_cmp) other → AreApart test other → lookup other new ≡ lookup other old
unfolding KeepsOthers
others test old new h = h

apart : (a q k : List ℕ) → bytes_eq a q ≡ false → is_eq (slice_cmp nat_cmp a k) ≡ true
    → is_eq (slice_cmp nat_cmp q k) ≡ false
apart a q k n y =
    is_eq-slice_cmp q k ∙ nat_list_eq_equiv.symm q k
    ∙ sym (nat_list_eq_equiv.congr a k q (sym (is_eq-slice_cmp a k) ∙ y)) ∙ n

-- a map has a number that was put under a list there, and elsewhere what it had
pub number_put : (m n : NumberMap) (key : Vec ℕ Global) (x : ℕ) → tree.Updates vec_cmp m n key (Some x) → (q : List ℕ)
    → number_at n q ≡ cond (bytes_eq key.items q) (Some x) (number_at m q)
number_put m n key x h q = by_test (bytes_eq key.items q) refl
  where
    by_test : (t : Bool) → bytes_eq key.items q ≡ t → number_at n q ≡ cond t (Some x) (number_at m q)
    by_test true e = subst (λ z. number_at n z ≡ Some x) ((bytes_eq-Decides key.items q).0 e) h.1
    by_test false e =
        others _ _ _ h.3 _ (λ x y. (eq_by_cmp_equiv nat_list_cmp_total).congr q x.items y.items)
        (λ k. apart key.items q k.items e)
