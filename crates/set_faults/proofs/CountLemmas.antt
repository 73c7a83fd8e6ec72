-- How many distinct texts a set of them has.
use Rattle.std.proofs.Common.{◌≡◌, ◌||◌, ℕ, Bool, true, false, cond, List, [], ◌∷◌, length, map, Bor, refl, sym, ap, ◌∙◌}
use Rattle.std.proofs.lemmas.List.{length-map}
use Rattle.std.proofs.lemmas.Map.Text.{is_eq-slice_cmp}
use Rattle.std.proofs.lemmas.Map.Views.{btree_set_len-from_list}
use Rattle.std.specs.BTreeSet as sorted
use Rattle.std.specs.BTreeSet.{BTreeSet, btree_set_len}
use Rattle.std.specs.Cmp.Lexicographic.{slice_cmp, on_texts}
use Rattle.std.specs.Ordering.{eq_by_cmp, nat_cmp}
use Rattle.std.specs.Set.{distinct_count, is_member, unique_keys}
use Rattle.std.specs.Str.{bytes_eq}

module _ {K X : Type 0} (e : K → K → Bool) (f : X → X → Bool) (v : K → X) (same : (a b : K) → e a b ≡ f (v a) (v b)) where
  member : (q : K) (xs : List K) → is_member e xs q ≡ is_member f (map v xs) (v q)
  member q [] = refl
  member q (x ∷ xs) = ap (λ b. b || is_member e xs q) (same q x) ∙ ap (λ b. f (v q) (v x) || b) (member q xs)

  unique : (xs : List K) → map v (unique_keys e xs) ≡ unique_keys f (map v xs)
  unique [] = refl
  unique (x ∷ xs) = either (is_member e xs x) (is_member f (map v xs) (v x)) (member x xs) (unique xs)
    where
      either : (b c : Bool) → b ≡ c → map v (unique_keys e xs) ≡ unique_keys f (map v xs)
          → map v (cond b (unique_keys e xs) (x ∷ unique_keys e xs)) ≡ cond c (unique_keys f (map v xs)) (v x ∷ unique_keys f (map v xs))
      either true true h u = u
      either true false h u = absurd (cc h)
      either false true h u = absurd (cc h)
      either false false h u = ap (λ z. v x ∷ z) u

-- the set that is made of texts has as many keys as there are distinct texts
pub distinct_texts : (xs : List (Bor (List ℕ))) (set : BTreeSet (Bor (List ℕ))) (n : ℕ) → sorted.IsFromIterResult (λ x y. slice_cmp nat_cmp x.now y.now) xs set → n ≡ btree_set_len set → n ≡ distinct_count bytes_eq (map (λ t. t.now) xs)
distinct_texts xs set n from long =
    let order = on_texts (λ (t : Bor (List ℕ)). t.now) in
    let cmp = λ (x y : Bor (List ℕ)). slice_cmp nat_cmp x.now y.now in
    let count = btree_set_len-from_list order xs set from in
    let tied : (x y : Bor (List ℕ)) → eq_by_cmp cmp x y ≡ bytes_eq x.now y.now = λ x y. is_eq-slice_cmp x.now y.now in
    long ∙ count ∙ sym (length-map (unique_keys (eq_by_cmp cmp) xs) (λ (t : Bor (List ℕ)). t.now))
    ∙ ap length (unique (eq_by_cmp cmp) bytes_eq (λ (t : Bor (List ℕ)). t.now) tied xs)
