-- What crates above may cite: a set of full names grows by the name that is put into it.
use Rattle.std.proofs.Common.{◌≡◌, ◌||◌, ℕ, true, cond, List, sym, ap, ◌∙◌}
use Rattle.std.specs.BTreeSet as sorted
use Rattle.std.specs.BTreeSet.{BTreeSet}
use Rattle.std.specs.Str.{bytes_eq}
use Rattle.base.proofs.TextLemmas.{bytes_eq_swap, or_swap}
use Rattle.descriptor_pool.specs.NameOrder.{has_name, ties_are_equal, name_cmp}

-- after a name is put into a set, the set has that name and what it had
pub has_name_more : (s n : BTreeSet (List ℕ)) (name : List ℕ) → sorted.Updates name_cmp s n name true → (q : List ℕ) → has_name n q ≡ (has_name s q || bytes_eq q name)
has_name_more s n name h q =
    h.0 q ∙ ap (λ z. cond z true (has_name s q)) (sym (ties_are_equal name q) ∙ bytes_eq_swap name q) ∙ or_swap (bytes_eq q name) (has_name s q)
