-- Slots found by their numbers in lists that rise: what holds of all of them, and which are members of one oneof.
use Rattle.std.proofs.Common.{◌≡◌, ◌≢◌, ◌==◌, ◌<◌, ℕ, Bool, true, false, cond, List, [], ◌∷◌, Option, Some, None, nat_eq, arith, refl, sym, ap, subst, ◌∙◌}
use Rattle.std.proofs.lemmas.Bool.{eqb-true, eq-eqb, false_from_ne_true}
use Rattle.std.specs.List.{AllByRecursion, cons_option}
use Rattle.base.proofs.EachImageLemmas.{each_filtered}
use Rattle.field_settings.specs.AppliedSettings.{is_one_oneof}
use Rattle.message_types.specs.Types.{field_in}
use Rattle.message_types.specs.declared.fields.Field.{Field}
use Rattle.schema.specs.Apart.{AreApart}
use Rattle.schema.specs.Validity.{oneof_of, oneofs_in}
use Rattle.schema.specs.Value.{RiseFrom, slot_in}
use Rattle.schema.specs.declared.value.Slot.{Slot}

-- a number is that of the first, or is looked for behind it
at_number : (e : ℕ × Slot) (es : List (ℕ × Slot)) (q : ℕ) (b : Bool) → (e.0 == q) ≡ b
    → slot_in (e ∷ es) q ≡ cond b (Some e.1) (slot_in es q)
at_number e es q b h = ap (λ (x : Bool). cond x (Some e.1) (slot_in es q)) h

at_first : (e : ℕ × Slot) (es : List (ℕ × Slot)) (q : ℕ) → e.0 ≡ q → slot_in (e ∷ es) q ≡ Some e.1
at_first e es q same = at_number e es q true (eq-eqb e.0 q same)

at_another : (e : ℕ × Slot) (es : List (ℕ × Slot)) (q : ℕ) → e.0 < q → slot_in (e ∷ es) q ≡ slot_in es q
at_another e es q less =
    at_number e es q false
    (false_from_ne_true (e.0 == q) (λ t. let same : e.0 ≡ q = eqb-true e.0 q t in omega (arith, less, same)))

-- what holds of each that is found holds of all
pub all_found : (P : ℕ × Slot → Type 0) (es : List (ℕ × Slot)) (low : ℕ) → RiseFrom low es
    → ((q : ℕ) (s : Slot) → low < q → slot_in es q ≡ Some s → P (q, s)) → AllByRecursion P es
all_found P [] low r h = tt
all_found P (e ∷ es) low r h = (
  h e.0 e.1 r.0 (at_first e es e.0 refl),
  all_found P es e.0 r.1
      (λ q s l k. let first : low < e.0 = r.0 in
      h q s (omega (arith, first, l)) (at_another e es q l ∙ k)),
)

-- what holds of all holds of each that is found
pub found_all : (P : ℕ × Slot → Type 0) (es : List (ℕ × Slot)) (q : ℕ) (s : Slot) → AllByRecursion P es
    → slot_in es q ≡ Some s → P (q, s)
found_all P [] q s all h = absurd (cc h)
found_all P (e ∷ es) q s all h = pick (e.0 == q) refl (found_all P es q s all.1) h
  where
    pick : (b : Bool) → (e.0 == q) ≡ b → (slot_in es q ≡ Some s → P (q, s))
        → cond b (Some e.1) (slot_in es q) ≡ Some s → P (q, s)
    pick true e' below k =
        let number : e.0 ≡ q = eqb-true e.0 q e' in
        let slot : e.1 ≡ s = cc k in
        subst (λ (x : Slot). P (q, x)) slot (subst (λ (n : ℕ). P (n, e.1)) number all.0)
    pick false e' below k = below k

-- two oneofs are one from either side
pub one_oneof_back : (a b : Option ℕ) → is_one_oneof a b ≡ is_one_oneof b a
one_oneof_back None None = refl
one_oneof_back None (Some j) = refl
one_oneof_back (Some k) None = refl
one_oneof_back (Some k) (Some j) = grind (arith)

module _ (fields : List Field) where
  -- the oneof of which the field of a number is a member
  abbrev pub oneof_at : ℕ → Option ℕ
  oneof_at q = oneof_of (field_in fields q)

  -- two numbers of slots, above this one, are not those of two members of one oneof
  abbrev pub AreMembersApart : ℕ → List (ℕ × Slot) → Type 0
  AreMembersApart low es = (q r : ℕ) (s t : Slot) → q ≢ r → low < q → low < r → slot_in es q ≡ Some s
      → slot_in es r ≡ Some t → is_one_oneof (oneof_at q) (oneof_at r) ≡ false

  with_first : (o : Option ℕ) (e : ℕ × Slot) (es : List (ℕ × Slot))
      → AllByRecursion (λ (d : ℕ × Slot). is_one_oneof o (oneof_at d.0) ≡ false) es
      → AreApart nat_eq (oneofs_in fields es) → AreApart nat_eq (cons_option o (oneofs_in fields es))
  with_first None e es h g = g
  with_first (Some k) e es h g = (
    each_filtered (λ (d : ℕ × Slot). is_one_oneof (Some k) (oneof_at d.0) ≡ false) (λ (j : ℕ). nat_eq k j ≡ false)
        (λ (d : ℕ × Slot). oneof_at d.0)
        (λ d j a i. subst (λ (o : Option ℕ). is_one_oneof (Some k) o ≡ false) i a) es h,
    g,
  )

  behind : (e : ℕ × Slot) (es : List (ℕ × Slot)) (q : ℕ) (s : Slot) → e.0 < q → slot_in es q ≡ Some s
      → slot_in (e ∷ es) q ≡ Some s
  behind e es q s l k = at_another e es q l ∙ k

  -- where no two are members of one oneof, the oneofs are apart
  pub oneofs_of_apart : (es : List (ℕ × Slot)) (low : ℕ) → RiseFrom low es → AreMembersApart low es
      → AreApart nat_eq (oneofs_in fields es)
  oneofs_of_apart [] low r h = tt
  oneofs_of_apart (e ∷ es) low r h =
      let first : low < e.0 = r.0 in
      with_first (oneof_at e.0) e es
      (all_found (λ (d : ℕ × Slot). is_one_oneof (oneof_at e.0) (oneof_at d.0) ≡ false) es e.0 r.1
      (λ q s l k. h e.0 q e.1 s (let ne : e.0 ≢ q = omega (arith, l) in ne) first (omega (arith, first, l))
      (at_first e es e.0 refl) (behind e es q s l k)))
      (oneofs_of_apart es e.0 r.1
      (λ q p s t ne l m j k. h q p s t ne (omega (arith, first, l)) (omega (arith, first, m))
      (behind e es q s l j) (behind e es p t m k)))

  free_at : (k : ℕ) (o : Option ℕ) (js : List ℕ) → AllByRecursion (λ (j : ℕ). nat_eq k j ≡ false) (cons_option o js)
      → is_one_oneof (Some k) o ≡ false
  free_at k None js h = refl
  free_at k (Some j) js h = h.0

  free_rest : (k : ℕ) (o : Option ℕ) (js : List ℕ) → AllByRecursion (λ (j : ℕ). nat_eq k j ≡ false) (cons_option o js)
      → AllByRecursion (λ (j : ℕ). nat_eq k j ≡ false) js
  free_rest k None js h = h
  free_rest k (Some j) js h = h.1

  -- a oneof that is that of no slot is that of none that is found
  free_found : (k : ℕ) (es : List (ℕ × Slot)) (q : ℕ) (s : Slot)
      → AllByRecursion (λ (j : ℕ). nat_eq k j ≡ false) (oneofs_in fields es) → slot_in es q ≡ Some s
      → is_one_oneof (Some k) (oneof_at q) ≡ false
  free_found k [] q s h f = absurd (cc f)
  free_found k (e ∷ es) q s h f =
      pick (e.0 == q) refl (free_found k es q s (free_rest k (oneof_at e.0) (oneofs_in fields es) h)) f
    where
      pick : (b : Bool) → (e.0 == q) ≡ b → (slot_in es q ≡ Some s → is_one_oneof (Some k) (oneof_at q) ≡ false)
          → cond b (Some e.1) (slot_in es q) ≡ Some s → is_one_oneof (Some k) (oneof_at q) ≡ false
      pick true i below g =
          subst (λ (n : ℕ). is_one_oneof (Some k) (oneof_at n) ≡ false) (eqb-true e.0 q i)
          (free_at k (oneof_at e.0) (oneofs_in fields es) h)
      pick false i below g = below g

  none_shares : (o : Option ℕ) (js : List ℕ) (es : List (ℕ × Slot)) (q : ℕ) (s : Slot) → js ≡ oneofs_in fields es
      → AreApart nat_eq (cons_option o js) → slot_in es q ≡ Some s → is_one_oneof o (oneof_at q) ≡ false
  none_shares None js es q s i h f = refl
  none_shares (Some k) js es q s i h f =
      free_found k es q s (subst (AllByRecursion (λ (j : ℕ). nat_eq k j ≡ false)) i h.0) f

  apart_rest : (o : Option ℕ) (js : List ℕ) → AreApart nat_eq (cons_option o js) → AreApart nat_eq js
  apart_rest None js h = h
  apart_rest (Some k) js h = h.1

  -- where the oneofs are apart, no two are members of one oneof
  pub apart_of_oneofs : (es : List (ℕ × Slot)) → AreApart nat_eq (oneofs_in fields es)
      → (q r : ℕ) (s t : Slot) → q ≢ r → slot_in es q ≡ Some s → slot_in es r ≡ Some t
      → is_one_oneof (oneof_at q) (oneof_at r) ≡ false
  apart_of_oneofs [] h q r s t ne f g = absurd (cc f)
  apart_of_oneofs (e ∷ es) h q r s t ne f g =
      pick (e.0 == q) (e.0 == r) refl refl
      (apart_of_oneofs es (apart_rest (oneof_at e.0) (oneofs_in fields es) h) q r s t ne) f g
    where
      first : (p n : ℕ) (x : Slot) → e.0 ≡ p → slot_in es n ≡ Some x → is_one_oneof (oneof_at p) (oneof_at n) ≡ false
      first p n x i k =
          subst (λ (m : ℕ). is_one_oneof (oneof_at m) (oneof_at n) ≡ false) i
          (none_shares (oneof_at e.0) (oneofs_in fields es) es n x refl h k)

      pick : (b c : Bool) → (e.0 == q) ≡ b → (e.0 == r) ≡ c
          → (slot_in es q ≡ Some s → slot_in es r ≡ Some t → is_one_oneof (oneof_at q) (oneof_at r) ≡ false)
          → cond b (Some e.1) (slot_in es q) ≡ Some s → cond c (Some e.1) (slot_in es r) ≡ Some t
          → is_one_oneof (oneof_at q) (oneof_at r) ≡ false
      pick true true i j below k l = absurd (ne (sym (eqb-true e.0 q i) ∙ eqb-true e.0 r j))
      pick true false i j below k l = first q r t (eqb-true e.0 q i) l
      pick false true i j below k l =
          one_oneof_back (oneof_at q) (oneof_at r) ∙ first r q s (eqb-true e.0 r j) k
      pick false false i j below k l = below k l
