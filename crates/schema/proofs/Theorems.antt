-- Laws of slots and entries, for every crate: what there is after one was replaced or removed, and which lists are one.
use Rattle.std.proofs.Common.{◌≡◌, ◌≢◌, ◌<◌, ◌≤◌, ◌==◌, ℕ, Bool, true, false, List, [], ◌∷◌, cond, Option, Some, None, nat_lt, arith, refl, ap, ap₂, sym, subst, ◌∙◌, inl, inr, ◌⊎◌}
use Rattle.std.proofs.lemmas.Bool.{ltb-true, ltb-false, eqb-true, eqb-false, eq-eqb, cases_lt, false_from_ne_true}
use Rattle.std.proofs.lemmas.Bool.Decides.{nat_tests}
use Rattle.std.specs.declared.cmp.Ordering.{Ordering}
use Rattle.std.specs.declared.cmp.Ordering.TheVariants.{Less, Equal, Greater}
use Rattle.std.specs.Ordering.{is_lt}
use Rattle.schema.specs.declared.key.Key.{Key}
use Rattle.schema.specs.declared.value.Item.{Item}
use Rattle.schema.specs.declared.value.Slot.{Slot}
use Rattle.schema.specs.Pairs.{KeysRise, KeysRiseFrom}
use Rattle.schema.specs.Value.{with_slot, without_slot, slot_in, RiseFrom}

apart : (m n q : ℕ) (x y z : Option Slot) → m < n → cond (m == q) x (cond (n == q) y z) ≡ cond (n == q) y (cond (m == q) x z)
apart m n q x y z h = grind (arith, nat_tests)

same : (m n q : ℕ) (x y z : Option Slot) → m ≡ n → cond (n == q) y z ≡ cond (n == q) y (cond (m == q) x z)
same m n q x y z h = grind (arith, nat_tests)

with_step : (e : ℕ × Slot) (es after : List (ℕ × Slot)) (n q : ℕ) (s : Slot) (b c : Bool) → (b ≡ true → e.0 < n) → (c ≡ true → e.0 ≡ n) → slot_in after q ≡ cond (n == q) (Some s) (slot_in es q)
    → slot_in (cond b (e ∷ after) (cond c ((n, s) ∷ es) ((n, s) ∷ e ∷ es))) q ≡ cond (n == q) (Some s) (slot_in (e ∷ es) q)
with_step e es after n q s true c p r h = ap (λ x. cond (e.0 == q) (Some e.1) x) h ∙ apart e.0 n q (Some e.1) (Some s) (slot_in es q) (p refl)
with_step e es after n q s false true p r h = same e.0 n q (Some e.1) (Some s) (slot_in es q) (r refl)
with_step e es after n q s false false p r h = refl

-- a slot that is put under a number is found there, and all others stay
pub slot_in-with_slot : (es : List (ℕ × Slot)) (n : ℕ) (s : Slot) (q : ℕ) → slot_in (with_slot es n s) q ≡ cond (n == q) (Some s) (slot_in es q)
slot_in-with_slot [] n s q = refl
slot_in-with_slot (e ∷ es) n s q = with_step e es (with_slot es n s) n q s (nat_lt e.0 n) (e.0 == n) (ltb-true e.0 n) (eqb-true e.0 n) (slot_in-with_slot es n s q)

rise_step : (e : ℕ × Slot) (es after : List (ℕ × Slot)) (low n : ℕ) (s : Slot) (b c : Bool) → (b ≡ true → e.0 < n) → (b ≡ false → n ≤ e.0) → (c ≡ true → e.0 ≡ n) → (c ≡ false → e.0 ≢ n) → low < n → RiseFrom low (e ∷ es) → (e.0 < n → RiseFrom e.0 after)
    → RiseFrom low (cond b (e ∷ after) (cond c ((n, s) ∷ es) ((n, s) ∷ e ∷ es)))
rise_step e es after low n s true c p p' r r' l h k = (h.0, k (p refl))
rise_step e es after low n s false true p p' r r' l h k = (l, subst (λ x. RiseFrom x es) (r refl) h.1)
rise_step e es after low n s false false p p' r r' l h k = let ne : e.0 ≢ n = r' refl in let le : n ≤ e.0 = p' refl in (l, (omega arith, h.1))

-- numbers that rise still do with a slot under a number that is not 0
pub RiseFrom-with_slot : (es : List (ℕ × Slot)) (low n : ℕ) (s : Slot) → low < n → RiseFrom low es → RiseFrom low (with_slot es n s)
RiseFrom-with_slot [] low n s l h = (l, tt)
RiseFrom-with_slot (e ∷ es) low n s l h = rise_step e es (with_slot es n s) low n s (nat_lt e.0 n) (e.0 == n) (ltb-true e.0 n) (ltb-false e.0 n) (eqb-true e.0 n) (eqb-false e.0 n) l h (λ m. RiseFrom-with_slot es e.0 n s m h.1)

not_here : (b c : Bool) (x : Option Slot) (n q : ℕ) (e : ℕ × Slot) (y : Option Slot) → (b ≡ true → e.0 ≡ n) → (c ≡ true → e.0 ≡ q) → n ≢ q → y ≡ x → cond b x (cond c (Some e.1) y) ≡ cond c (Some e.1) x
not_here true true x n q e y p r d h = absurd (d (sym (p refl) ∙ r refl))
not_here true false x n q e y p r d h = refl
not_here false true x n q e y p r d h = refl
not_here false false x n q e y p r d h = h

cond_slots : (b : Bool) (e : ℕ × Slot) (es after : List (ℕ × Slot)) (q : ℕ) → slot_in (cond b es (e ∷ after)) q ≡ cond b (slot_in es q) (cond (e.0 == q) (Some e.1) (slot_in after q))
cond_slots true e es after q = refl
cond_slots false e es after q = refl

-- the slots of other numbers stay
pub slot_in_without_other : (es : List (ℕ × Slot)) (n q : ℕ) → n ≢ q → slot_in (without_slot es n) q ≡ slot_in es q
slot_in_without_other [] n q d = refl
slot_in_without_other (e ∷ es) n q d =
    cond_slots (e.0 == n) e es (without_slot es n) q
    ∙ not_here (e.0 == n) (e.0 == q) (slot_in es q) n q e (slot_in (without_slot es n) q) (eqb-true e.0 n) (eqb-true e.0 q) d (slot_in_without_other es n q d)

miss : (b : Bool) (x y : Option Slot) → (b ≡ true → ⊥) → y ≡ None → cond b x y ≡ None
miss true x y p h = absurd (p refl)
miss false x y p h = h

-- below the first of rising numbers there is no slot
slot_in_below : (es : List (ℕ × Slot)) (low q : ℕ) → RiseFrom low es → q ≤ low → slot_in es q ≡ None
slot_in_below [] low q h l = refl
slot_in_below (e ∷ es) low q h l =
    miss (e.0 == q) (Some e.1) (slot_in es q) (λ t. let s : e.0 ≡ q = eqb-true e.0 q t in let r : low < e.0 = h.0 in omega arith) (slot_in_below es e.0 q h.1 (let r : low < e.0 = h.0 in omega arith))

gone_step : (b : Bool) (e : ℕ × Slot) (es after : List (ℕ × Slot)) (n : ℕ) → (b ≡ true → slot_in es n ≡ None) → (b ≡ false → cond (e.0 == n) (Some e.1) (slot_in after n) ≡ None) → slot_in (cond b es (e ∷ after)) n ≡ None
gone_step true e es after n p r = p refl
gone_step false e es after n p r = r refl

-- a number that was removed from rising ones has no slot
pub slot_in_without_same : (es : List (ℕ × Slot)) (low n : ℕ) → RiseFrom low es → slot_in (without_slot es n) n ≡ None
slot_in_without_same [] low n h = refl
slot_in_without_same (e ∷ es) low n h =
    gone_step (e.0 == n) e es (without_slot es n) n
    (λ t. slot_in_below es e.0 n h.1 (let s : e.0 ≡ n = eqb-true e.0 n t in omega arith))
    (λ f. rw f (slot_in_without_same es e.0 n h.1))

rise_weaker : (es : List (ℕ × Slot)) (low high : ℕ) → low < high → RiseFrom high es → RiseFrom low es
rise_weaker [] low high l h = tt
rise_weaker (e ∷ es) low high l h = (let r : high < e.0 = h.0 in omega arith, h.1)

rest_step : (b : Bool) (e : ℕ × Slot) (es after : List (ℕ × Slot)) (low : ℕ) → low < e.0 → RiseFrom e.0 es → RiseFrom e.0 after → RiseFrom low (cond b es (e ∷ after))
rest_step true e es after low l h a = rise_weaker es low e.0 l h
rest_step false e es after low l h a = (l, a)

-- what is left of rising numbers rises
pub RiseFrom-without_slot : (es : List (ℕ × Slot)) (low n : ℕ) → RiseFrom low es → RiseFrom low (without_slot es n)
RiseFrom-without_slot [] low n h = tt
RiseFrom-without_slot (e ∷ es) low n h = rest_step (e.0 == n) e es (without_slot es n) low h.0 h.1 (RiseFrom-without_slot es e.0 n h.1)

-- ---- two lists that rise

head_at : (e : ℕ × Slot) (es : List (ℕ × Slot)) → slot_in (e ∷ es) e.0 ≡ Some e.1
head_at e es = rw (eq-eqb e.0 e.0 refl) refl

tail_at : (e : ℕ × Slot) (es : List (ℕ × Slot)) (q : ℕ) → e.0 ≢ q → slot_in (e ∷ es) q ≡ slot_in es q
tail_at e es q ne = rw (false_from_ne_true (e.0 == q) (λ t. ne (eqb-true e.0 q t))) refl

not_some : (o : Option Slot) (s : Slot) → o ≡ None → o ≡ Some s → ⊥
not_some o s p q = cc

same_pair : (e d : ℕ × Slot) → e.0 ≡ d.0 → Some e.1 ≡ Some d.1 → e ≡ d
same_pair e d p q = let r : e.1 ≡ d.1 = cc in ap₂ (λ (x : ℕ) (y : Slot). (x, y)) p r

-- two lists that rise and have the same at each number are the same
pub same_slots : (xs ys : List (ℕ × Slot)) (low : ℕ) → RiseFrom low xs → RiseFrom low ys → ((q : ℕ) → slot_in xs q ≡ slot_in ys q) → xs ≡ ys
same_slots [] [] low p r h = refl
same_slots [] (d ∷ ds) low p r h = absurd (not_some (slot_in (d ∷ ds) d.0) d.1 (sym (h d.0)) (head_at d ds))
same_slots (e ∷ es) [] low p r h = absurd (not_some (slot_in (e ∷ es) e.0) e.1 (h e.0) (head_at e es))
same_slots (e ∷ es) (d ∷ ds) low p r h =
    let less : e.0 < d.0 → ⊥ = λ l. not_some (slot_in (e ∷ es) e.0) e.1 (h e.0 ∙ tail_at d ds e.0 (let ne : d.0 ≢ e.0 = omega arith in ne) ∙ slot_in_below ds d.0 e.0 r.1 (omega arith)) (head_at e es) in
    let more : d.0 < e.0 → ⊥ = λ l. not_some (slot_in (d ∷ ds) d.0) d.1 (sym (h d.0) ∙ tail_at e es d.0 (let ne : e.0 ≢ d.0 = omega arith in ne) ∙ slot_in_below es e.0 d.0 p.1 (omega arith)) (head_at d ds) in
    let same : e.0 ≡ d.0 = omega (arith, less, more) in
    let first : e ≡ d = same_pair e d same (sym (head_at e es) ∙ h e.0 ∙ ap (slot_in (d ∷ ds)) same ∙ head_at d ds) in
    ap₂ (λ (x : ℕ × Slot) (xs : List (ℕ × Slot)). x ∷ xs) first (same_slots es ds e.0 p.1 (subst (λ (x : ℕ). RiseFrom x ds) (sym same) r.1)
    (λ q. rest_at q same (cases_lt e.0 q)))
  where
    rest_at : (q : ℕ) → e.0 ≡ d.0 → (e.0 < q) ⊎ (q ≤ e.0) → slot_in es q ≡ slot_in ds q
    rest_at q same (inl l) = sym (tail_at e es q (let ne : e.0 ≢ q = omega arith in ne)) ∙ h q ∙ tail_at d ds q (let ne : d.0 ≢ q = omega arith in ne)
    rest_at q same (inr l) = slot_in_below es e.0 q p.1 l ∙ sym (slot_in_below ds d.0 q r.1 (omega arith))

-- what is less is so
pub lt_is : (x : Ordering) → is_lt x ≡ true → x ≡ Less
lt_is Less h = refl
lt_is Equal h = absurd cc
lt_is Greater h = absurd cc

-- keys that rise from one rise
pub rises_on : (low : Key) (es : List (Key × Item)) → KeysRiseFrom low es → KeysRise es
rises_on low [] h = tt
rises_on low (e ∷ es) h = h.1
