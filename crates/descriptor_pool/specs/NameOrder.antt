-- The order of full names, and maps and sets with full names as keys.
use Rattle.std.specs.Prelude.{◌≡◌, ℕ, Bool, List, Option, refl}
use Rattle.std.proofs.Common.{reverse, sym, ap, ◌∙◌}
use Rattle.std.proofs.lemmas.Bool.Decides.{same_from_decides}
use Rattle.std.proofs.lemmas.Cmp.{nat_list_cmp_total, nat_list_eq_equiv, on_total}
use Rattle.std.proofs.lemmas.List.{reverse-reverse}
use Rattle.std.proofs.lemmas.Map.Text.{is_eq-slice_cmp}
use Rattle.std.proofs.lemmas.Slice.Eq.{bytes_eq-Decides}
use Rattle.std.specs.BTreeMap.{BTreeMap, get}
use Rattle.std.specs.BTreeSet.{BTreeSet, contains}
use Rattle.std.specs.Cmp.{IsEquivalence, IsPartialEquivalence, IsPartialOrder, IsTotalOrder, partial_equiv_from_equiv, partial_order_from_agreeing_total}
use Rattle.std.specs.Cmp.Lexicographic.{slice_cmp}
use Rattle.std.specs.Ordering.{as_partial_cmp, is_eq, nat_cmp, on}
use Rattle.std.specs.Str.{bytes_eq}
use Rattle.std.specs.declared.cmp.Ordering.{Ordering}

-- names by their bytes, from the last one on
abbrev pub name_cmp : List ℕ → List ℕ → Ordering
name_cmp = on reverse (slice_cmp nat_cmp)

-- what a map has at a full name
abbrev pub at_name : BTreeMap (List ℕ) ℕ → List ℕ → Option ℕ
at_name m q = get name_cmp m q

-- a set has a full name
abbrev pub has_name : BTreeSet (List ℕ) → List ℕ → Bool
has_name s q = contains name_cmp s q

-- the order is total
pub name_cmp_total : IsTotalOrder name_cmp
name_cmp_total = on_total reverse nat_list_cmp_total

-- two names are tied in it exactly where they are one text
pub ties_are_equal : (a b : List ℕ) → bytes_eq a b ≡ is_eq (name_cmp a b)
ties_are_equal a b =
    same_from_decides (bytes_eq a b) (bytes_eq (reverse a) (reverse b)) (bytes_eq-Decides a b) (
      (λ t. sym (reverse-reverse a) ∙ ap reverse ((bytes_eq-Decides (reverse a) (reverse b)).0 t) ∙ reverse-reverse b),
      (λ e. (bytes_eq-Decides (reverse a) (reverse b)).1 (ap reverse e)),
    )
    ∙ sym (is_eq-slice_cmp (reverse a) (reverse b))

-- the test of texts is an equivalence
pub bytes_eq_laws : IsEquivalence bytes_eq
bytes_eq_laws = nat_list_eq_equiv

-- and so a partial one
pub bytes_eq_partial_laws : IsPartialEquivalence bytes_eq
bytes_eq_partial_laws = partial_equiv_from_equiv nat_list_eq_equiv

-- the order is a partial one too
pub name_cmp_partial : IsPartialOrder bytes_eq (as_partial_cmp name_cmp)
name_cmp_partial = partial_order_from_agreeing_total name_cmp name_cmp_total (λ x y. refl) ties_are_equal
