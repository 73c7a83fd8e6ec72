-- Sets and maps whose keys are texts.
use Rattle.std.proofs.Common.{◌≡◌, ◌<◌, ◌≤◌, ◌-◌, arith, ◌+◌, ℕ, cond, List, [], ◌∷◌, length, map, drop, get_or, Bor, Some, sym, ap, ◌∙◌}
use Rattle.std.proofs.lemmas.List.{drop_more}
use Rattle.std.proofs.lemmas.Map.Text.{btree_map_updates_str}
use Rattle.std.specs.BTreeMap as tree
use Rattle.std.specs.BTreeMap.{BTreeMap}
use Rattle.std.specs.Cmp.Lexicographic.{slice_cmp}
use Rattle.std.specs.Ordering.{nat_cmp}
use Rattle.std.specs.Str.{bytes_eq}
use Rattle.base.proofs.TextLemmas.{bytes_eq_swap}
use Rattle.descriptor_pool.specs.DeclaredTypes.{first_from}
use Rattle.descriptor_pool.specs.NameIndex.{index_at}

-- after the name at an index got that index, the map has the index of each name from there on
pub index_more : (names : List (Bor (List ℕ))) (at : ℕ) (m n : BTreeMap (Bor (List ℕ)) ℕ) (name : Bor (List ℕ)) (rest : List (Bor (List ℕ)))
    → tree.Updates (λ x y. slice_cmp nat_cmp x.now y.now) m n name (Some at)
    → ((q : List ℕ) → index_at m q ≡ first_from (at + 1) (map (λ k. k.now) rest) q)
    → (q : List ℕ) → index_at n q ≡ first_from at (map (λ k. k.now) (name ∷ rest)) q
index_more names at m n name rest h held q =
    btree_map_updates_str name.now m n (Some at) h q
    ∙ ap (λ z. cond z (Some at) (index_at m q)) (bytes_eq_swap name.now q)
    ∙ ap (λ z. cond (bytes_eq q name.now) (Some at) z) (held q)

-- the same with the names in a list from that index on
pub index_at_more : (names : List (Bor (List ℕ))) (at : ℕ) (m n : BTreeMap (Bor (List ℕ)) ℕ) → 0 < at → at ≤ length names
    → tree.Updates (λ x y. slice_cmp nat_cmp x.now y.now) m n (get_or names (at - 1) (record { ref_ptr = (0, 0); now = [] })) (Some (at - 1))
    → ((q : List ℕ) → index_at m q ≡ first_from at (map (λ k. k.now) (drop at names)) q)
    → (q : List ℕ) → index_at n q ≡ first_from (at - 1) (map (λ k. k.now) (drop (at - 1) names)) q
index_at_more names at m n some within h held =
    let i = at - 1 in
    let next : i + 1 ≡ at = omega arith in
    let lt : i < length names = omega arith in
    let d : Bor (List ℕ) = record { ref_ptr = (0, 0); now = [] } in
    let later : (q : List ℕ) → index_at m q ≡ first_from (i + 1) (map (λ k. k.now) (drop (i + 1) names)) q =
    λ q. held q ∙ ap (λ z. first_from z (map (λ k. k.now) (drop z names)) q) (sym next) in
    λ q. index_more names i m n (get_or names i d) (drop (i + 1) names) h later q
    ∙ ap (λ z. first_from i (map (λ k. k.now) z) q) (sym (drop_more names i d lt))
