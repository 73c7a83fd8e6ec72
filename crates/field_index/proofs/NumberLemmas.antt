-- The set of the numbers of a list, with one number more.
use Rattle.std.proofs.Common.{◌≡◌, ◌||◌, ◌++◌, ℕ, Bool, true, false, List, [], ◌∷◌, nat_eq, refl, sym, ap, ◌∙◌}
use Rattle.std.specs.BTreeSet.{BTreeSet, Updates}
use Rattle.std.specs.Ordering.{nat_cmp}
use Rattle.base.proofs.NumberSetLemmas.{nat_set_more}
use Rattle.json_meanings.specs.PartialMessages.{has_number}
use Rattle.field_index.specs.NumberSets.{IsSetOf}

or_false : (t : Bool) → (t || false) ≡ t
or_false true = refl
or_false false = refl

or_behind : (s t u : Bool) → (s || (t || u)) ≡ ((s || t) || u)
or_behind true t u = refl
or_behind false t u = refl

-- a number is one of a list with a last one where it is one of the list or the last one
has_number-append : (q k : ℕ) (ns : List ℕ) → has_number q (ns ++ k ∷ []) ≡ (has_number q ns || nat_eq q k)
has_number-append q k [] = or_false (nat_eq q k)
has_number-append q k (n ∷ ns) =
    ap (λ t. nat_eq q n || t) (has_number-append q k ns) ∙ or_behind (nat_eq q n) (has_number q ns) (nat_eq q k)

-- after a number is put into it, the set has the numbers of the list with that one behind it
pub set_more : (s n : BTreeSet ℕ) (k : ℕ) (ns : List ℕ) → Updates nat_cmp s n k true → IsSetOf s ns
    → IsSetOf n (ns ++ k ∷ [])
set_more s n k ns put held q =
    nat_set_more s n k put q ∙ ap (λ t. t || nat_eq q k) (held q) ∙ sym (has_number-append q k ns)
