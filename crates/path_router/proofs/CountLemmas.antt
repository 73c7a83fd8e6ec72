-- The methods of bindings in order are as many as the bindings have, each once.
use Rattle.std.proofs.Common.{◌≡◌, ◌||◌, ℕ, zero, suc, Bool, true, false, List, [], ◌∷◌, length, map, slice_get, Some, refl, sym, ap, ◌∙◌, subst}
use Rattle.std.proofs.lemmas.Map.Made.{length-from_keys}
use Rattle.std.proofs.lemmas.Map.Text.{is_eq-slice_cmp}
use Rattle.std.proofs.lemmas.Slice.Eq.{bytes_eq-Decides}
use Rattle.std.specs.List.{IsDistinct}
use Rattle.std.specs.Ordering.{is_eq}
use Rattle.std.specs.Set.{distinct_count, is_member}
use Rattle.std.specs.Str.{bytes_eq}
use Rattle.std.specs.declared.cmp.Ordering.TheVariants.{Less}
use Rattle.base.proofs.EachLemmas.{each_weaker}
use Rattle.base.proofs.TextLemmas.{bytes_eq_equiv, bytes_eq_self}
use Rattle.http_rules.specs.declared.template.Binding.{Binding}
use Rattle.path_router.specs.BindingMethods.{AreRising, methods_of}
use Rattle.path_router.proofs.MethodLemmas.{Has, IsMethodOf, methods_exact, methods_rise, order}

-- rising texts are distinct
rising_distinct : (ms : List (List ℕ)) → AreRising ms → IsDistinct bytes_eq ms
unfolding IsDistinct
rising_distinct [] r = tt
rising_distinct (m ∷ ms) r = (
  each_weaker (λ n. order m n ≡ Less) (λ n. bytes_eq m n ≡ false) (λ n h. sym (is_eq-slice_cmp m n) ∙ ap is_eq h) ms
      r.0,
  rising_distinct ms r.1,
)

member_has : (ms : List (List ℕ)) (q : List ℕ) → is_member bytes_eq ms q ≡ true → Has ms q
member_has [] q e = absurd (cc (e))
member_has (m ∷ ms) q e = pick (member_has ms q) (bytes_eq q m) refl e
  where
    pick : (is_member bytes_eq ms q ≡ true → Has ms q) → (b : Bool) → b ≡ bytes_eq q m
        → (b || is_member bytes_eq ms q) ≡ true → Has (m ∷ ms) q
    pick on true p e = (zero, ap Some (sym ((bytes_eq-Decides q m).0 (sym p))))
    pick on false p e = let h = on e in (suc h.0, h.1)

or_true : (b c : Bool) → c ≡ true → (b || c) ≡ true
or_true true c e = refl
or_true false c e = e

has_member : (ms : List (List ℕ)) (i : ℕ) (q : List ℕ) → slice_get ms i ≡ Some q → is_member bytes_eq ms q ≡ true
has_member [] i q e = absurd (cc (e))
has_member (m ∷ ms) zero q e =
    let same : m ≡ q = cc (e) in
    let own : bytes_eq q m ≡ true = subst (λ z. bytes_eq q z ≡ true) (sym same) (bytes_eq_self q) in
    ap (λ b. b || is_member bytes_eq ms q) own
has_member (m ∷ ms) (suc i) q e = or_true (bytes_eq q m) (is_member bytes_eq ms q) (has_member ms i q e)

same_truth : (x y : Bool) → (x ≡ true → y ≡ true) → (y ≡ true → x ≡ true) → x ≡ y
same_truth true y f g = sym (f refl)
same_truth false true f g = g refl
same_truth false false f g = refl

-- the methods that the bindings have
abbrev own_methods : List Binding → List (List ℕ)
own_methods bs = map (λ (b : Binding). b.method) bs

has_own : (bs : List Binding) (q : List ℕ) → Has (own_methods bs) q → IsMethodOf bs q
has_own [] q h = absurd (cc (h.1))
has_own (b ∷ bs) q (zero, e) = (zero, b, refl, cc (e))
has_own (b ∷ bs) q (suc i, e) = let on = has_own bs q (i, e) in (suc on.0, on.1, on.2, on.3)

own_has_at : (bs : List Binding) (q : List ℕ) (i : ℕ) (b : Binding) → slice_get bs i ≡ Some b → b.method ≡ q
    → slice_get (own_methods bs) i ≡ Some q
own_has_at [] q i b e f = absurd (cc (e))
own_has_at (c ∷ bs) q zero b e f = let same : c ≡ b = cc (e) in ap (λ (z : Binding). Some z.method) same ∙ ap Some f
own_has_at (c ∷ bs) q (suc i) b e f = own_has_at bs q i b e f

-- the methods in order are as many as the distinct methods of the bindings
pub methods_counted : (bs : List Binding)
    → length (methods_of bs) ≡ distinct_count bytes_eq (map (λ (b : Binding). b.method) bs)
methods_counted bs =
    length-from_keys bytes_eq_equiv (methods_of bs) (own_methods bs) (rising_distinct (methods_of bs) (methods_rise bs))
    (λ q. same_truth (is_member bytes_eq (methods_of bs) q) (is_member bytes_eq (own_methods bs) q)
    (λ t. let h = (methods_exact bs q).0 (member_has (methods_of bs) q t) in
    has_member (own_methods bs) h.0 q (own_has_at bs q h.0 h.1 h.2 h.3))
    (λ t. let h = (methods_exact bs q).1 (has_own bs q (member_has (own_methods bs) q t)) in
    has_member (methods_of bs) h.0 q h.1))
