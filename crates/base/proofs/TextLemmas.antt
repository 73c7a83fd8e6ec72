-- Texts as lists of bytes: the test of two, and sets of texts.
use Rattle.std.proofs.Common.{◌≡◌, ◌||◌, ℕ, Bool, true, false, cond, List, Bor, refl, sym, ap, ◌∙◌}
use Rattle.std.proofs.lemmas.Bool.Decides.{same_from_decides}
use Rattle.std.proofs.lemmas.Map.Text.{is_eq-slice_cmp}
use Rattle.std.proofs.lemmas.Slice.Eq.{bytes_eq-Decides}
use Rattle.std.specs.BTreeSet.{BTreeSet, Updates, contains_by}
use Rattle.std.specs.Cmp.{IsEquivalence}
use Rattle.std.specs.Cmp.Lexicographic.{slice_cmp}
use Rattle.std.specs.Ordering.{nat_cmp}
use Rattle.std.specs.Str.{bytes_eq}

-- two texts are equal in either order
pub bytes_eq_swap : (a b : List ℕ) → bytes_eq a b ≡ bytes_eq b a
bytes_eq_swap a b =
    same_from_decides (bytes_eq a b) (bytes_eq b a) (bytes_eq-Decides a b)
    ((λ t. sym ((bytes_eq-Decides b a).0 t)), (λ e. (bytes_eq-Decides b a).1 (sym e)))

-- a text is equal to itself
pub bytes_eq_self : (a : List ℕ) → bytes_eq a a ≡ true
bytes_eq_self a = (bytes_eq-Decides a a).1 refl

-- the test of texts is an equivalence
pub bytes_eq_equiv : IsEquivalence bytes_eq
bytes_eq_equiv = record {
  refl = bytes_eq_self;
  symm = bytes_eq_swap;
  congr = λ x y z h. ap (λ w. bytes_eq w z) ((bytes_eq-Decides x y).0 h);
}

-- a choice between truth and a test, as a test: `cond` and `||` do not compute to one
pub or_swap : (b c : Bool) → cond b true c ≡ (c || b)
or_swap true true = refl
or_swap true false = refl
or_swap false true = refl
or_swap false false = refl

-- after a text is put into a set, the set has that text and what it had
pub text_set_more : (key : Bor (List ℕ)) (s n : BTreeSet (Bor (List ℕ))) → Updates (λ x y. slice_cmp nat_cmp x.now y.now) s n key true
    → (q : List ℕ) → contains_by (λ k. slice_cmp nat_cmp q k.now) n ≡ (contains_by (λ k. slice_cmp nat_cmp q k.now) s || bytes_eq q key.now)
text_set_more key s n h q =
    let k : Bor (List ℕ) = record { ref_ptr = (0, 0); now = q } in
    let had = contains_by (λ (x : Bor (List ℕ)). slice_cmp nat_cmp q x.now) s in
    h.0 k ∙ ap (λ z. cond z true had) (is_eq-slice_cmp key.now q ∙ bytes_eq_swap key.now q) ∙ or_swap (bytes_eq q key.now) had
