-- Full names: what a type name names, and maps and sets that have full names as keys.
use Rattle.std.proofs.Common.{◌≡◌, ◌≢◌, ◌==◌, ◌≤◌, ◌<◌, ◌-◌, ◌+◌, ◌||◌, ℕ, Bool, true, false, cond, List, [], ◌∷◌, length, map, drop, take, get_or, Bor, Option, Some, None, if◌then◌else◌, refl, sym, ap, ◌∙◌, arith}
use Rattle.std.proofs.lemmas.Bool.{eqb-true}
use Rattle.std.proofs.lemmas.Cmp.{is_eq_index}
use Rattle.std.proofs.lemmas.List.{drop_more}
use Rattle.std.proofs.lemmas.List.Folds.{list_any_more}
use Rattle.std.specs.BTreeMap as tree
use Rattle.std.specs.BTreeMap.{BTreeMap}
use Rattle.std.specs.BTreeSet as sorted
use Rattle.std.specs.BTreeSet.{BTreeSet}
use Rattle.std.specs.List.{list_any}
use Rattle.std.specs.Option.{MatchOption, option_copied}
use Rattle.std.specs.Ordering.{is_eq, ordering_index}
use Rattle.std.specs.Str.{bytes_eq}
use Rattle.std.specs.declared.cmp.Ordering.{Ordering}
use Rattle.base.proofs.TextLemmas.{bytes_eq_swap}
use Rattle.descriptor_pool.specs.DeclaredTypes.{bare, first_from}
use Rattle.descriptor_pool.specs.NameOrder.{at_name, has_name, ties_are_equal, name_cmp}
use Rattle.descriptor_pool.proofs.Theorems.{has_name_more}

-- what stands behind a dot is what a type name names
pub bare_behind : (text : List ℕ) (r : Option (Bor (List ℕ))) → MatchOption r ((rest : List ℕ) → text ≢ 46 ∷ rest) (λ (x : Bor (List ℕ)). text ≡ 46 ∷ x.now) → option_copied r ≡ bare text
bare_behind text (Some x) h = sym (ap bare h)
bare_behind [] None h = refl
bare_behind (b ∷ bs) None h = pick (b == 46) refl
  where
    pick : (t : Bool) → (b == 46) ≡ t → None ≡ (if t then Some bs else None)
    pick true e = absurd (h bs (ap (λ z. z ∷ bs) (eqb-true b 46 e)))
    pick false e = refl

-- a map with one entry more, at a name: that entry where it is asked for that name, else what it had
updated : (m n : BTreeMap (List ℕ) ℕ) (name : List ℕ) (at : ℕ) → tree.Updates name_cmp m n name (Some at) → (q : List ℕ) → at_name n q ≡ cond (bytes_eq q name) (Some at) (at_name m q)
updated m n name at h q =
    h.0 q ∙ ap (λ b. cond b (Some at) (at_name m q)) (sym (ties_are_equal name q) ∙ bytes_eq_swap name q)

-- after the name at an index got that index, the map has the index of each name from there on
pub at_name_more : (names : List (Bor (List ℕ))) (at : ℕ) (m n : BTreeMap (List ℕ) ℕ) (name : List ℕ) → 0 < at → at ≤ length names
    → (item : Bor (List ℕ)) → item ≡ get_or names (at - 1) item → name ≡ item.now
    → tree.Updates name_cmp m n name (Some (at - 1))
    → ((q : List ℕ) → at_name m q ≡ first_from at (map (λ k. k.now) (drop at names)) q)
    → (q : List ℕ) → at_name n q ≡ first_from (at - 1) (map (λ k. k.now) (drop (at - 1) names)) q
at_name_more names at m n name some within d at_index is h held =
    let i = at - 1 in
    let next : i + 1 ≡ at = omega arith in
    let lt : i < length names = omega arith in
    let later : (q : List ℕ) → at_name m q ≡ first_from (i + 1) (map (λ k. k.now) (drop (i + 1) names)) q =
    λ q. held q ∙ ap (λ z. first_from z (map (λ k. k.now) (drop z names)) q) (sym next) in
    λ q. updated m n name i h q
    ∙ ap (λ z. cond (bytes_eq q z) (Some i) (at_name m q)) (is ∙ ap (λ (k : Bor (List ℕ)). k.now) at_index)
    ∙ ap (λ z. cond (bytes_eq q (get_or names i d).now) (Some i) z) (later q)
    ∙ ap (λ z. first_from i (map (λ k. k.now) z) q) (sym (drop_more names i d lt))

-- the set of the names up to an index grows by the name at it
pub names_more : (names : List (List ℕ)) (i : ℕ) (s n : BTreeSet (List ℕ)) (item name : List ℕ) → i < length names → item ≡ get_or names i item → name ≡ item → sorted.Updates name_cmp s n name true
    → ((q : List ℕ) → has_name s q ≡ list_any (bytes_eq q) (take i names))
    → (q : List ℕ) → has_name n q ≡ list_any (bytes_eq q) (take (i + 1) names)
names_more names i s n item name lt at_index is h held q =
    has_name_more s n name h q
    ∙ ap (λ z. z || bytes_eq q name) (held q)
    ∙ ap (λ z. list_any (bytes_eq q) (take i names) || bytes_eq q z) (is ∙ at_index)
    ∙ sym (list_any_more (bytes_eq q) names i item lt)

-- two names are one text where they compare as equal
pub tied_is : (a b : List ℕ) (o : Ordering) (r : Bool) → o ≡ name_cmp a b → r ≡ (ordering_index o == 1) → r ≡ bytes_eq a b
tied_is a b o r h t = t ∙ sym (is_eq_index o) ∙ ap is_eq h ∙ sym (ties_are_equal a b)
