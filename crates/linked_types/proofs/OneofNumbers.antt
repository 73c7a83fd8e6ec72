-- The numbers of real oneofs are in declared order, each once and none left out.
use Rattle.std.proofs.Common.{◌≡◌, ◌<◌, ◌≤◌, ◌+◌, ℕ, zero, suc, Bool, true, false, cond, List, Some, None, refl, sym, ap, ◌∙◌, arith, inl, inr, ◌⊎◌}
use Rattle.std.proofs.lemmas.Bool.{cases_lt}
use Rattle.std.proofs.lemmas.Option.{same_Some}
use Rattle.descriptors.specs.declared.file_set.FieldInfo.{FieldInfo}
use Rattle.linked_types.specs.LinkedTypes.{is_real, real_before, real_number}

-- what has a number is real, and its number counts the real ones before it
numbered : (fs : List FieldInfo) (i a : ℕ) → real_number fs i ≡ Some a
    → (is_real fs i ≡ true) × (real_before fs i ≡ a)
numbered fs i a h = pick (is_real fs i) h
  where
    pick : (b : Bool) → cond b (Some (real_before fs i)) None ≡ Some a → (b ≡ true) × (real_before fs i ≡ a)
    pick true e = (refl, same_Some (real_before fs i) a e)
    pick false e = absurd (cc e)

-- as many or more stand before what comes next
step : (n : ℕ) (b : Bool) → n ≤ n + cond b 1 0
step n true = omega arith
step n false = omega arith

-- more real ones stand before an index than before a real one before it
pub grows : (fs : List FieldInfo) (i j : ℕ) → is_real fs i ≡ true → i < j → real_before fs i < real_before fs j
grows fs i zero r l = absurd (omega (arith, l))
grows fs i (suc j) r l = pick (cases_lt i j) (grows fs i j r)
  where
    same : i ≡ j → real_before fs i < real_before fs (suc j)
    same e =
        let real : is_real fs j ≡ true = ap (λ z. is_real fs z) (sym e) ∙ r in
        let one : real_before fs (suc j) ≡ real_before fs j + 1 = ap (λ b. real_before fs j + cond b 1 0) real in
        let at : real_before fs i ≡ real_before fs j = ap (λ z. real_before fs z) e in
        omega (arith, one, at)

    pick : (i < j) ⊎ (j ≤ i) → (i < j → real_before fs i < real_before fs j)
        → real_before fs i < real_before fs (suc j)
    pick (inl k) next =
        let more : real_before fs j ≤ real_before fs (suc j) = step (real_before fs j) (is_real fs j) in
        omega (arith, more, next k)
    pick (inr k) next = same (omega (arith, k, l))

-- numbers are in declared order
pub numbers_rise : (fs : List FieldInfo) (i j a b : ℕ) → real_number fs i ≡ Some a → real_number fs j ≡ Some b
    → i < j → a < b
numbers_rise fs i j a b g h l =
    let first = numbered fs i a g in
    let second = numbered fs j b h in
    let more = grows fs i j first.0 l in
    omega (arith, more, first.1, second.1)

-- oneofs with one number are one
pub numbers_apart : (fs : List FieldInfo) (i j a b : ℕ) → real_number fs i ≡ Some a → real_number fs j ≡ Some b
    → a ≡ b → i ≡ j
numbers_apart fs i j a b g h e = pick (cases_lt i j) (cases_lt j i)
  where
    pick : (i < j) ⊎ (j ≤ i) → (j < i) ⊎ (i ≤ j) → i ≡ j
    pick (inl k) _ = let less = numbers_rise fs i j a b g h k in absurd (omega (arith, less, e))
    pick (inr k) (inl l) = let less = numbers_rise fs j i b a h g l in absurd (omega (arith, less, e))
    pick (inr k) (inr l) = omega (arith, k, l)

-- each number below how many stand before an index is of a oneof before it
numbers_whole : (fs : List FieldInfo) (j a : ℕ) → a < real_before fs j
    → (i : ℕ) × (i < j) × (real_number fs i ≡ Some a)
numbers_whole fs zero a l = absurd (omega (arith, l))
numbers_whole fs (suc j) a l = pick (cases_lt a (real_before fs j)) (is_real fs j) refl l (numbers_whole fs j a)
  where
    pick : (a < real_before fs j) ⊎ (real_before fs j ≤ a)
        → (b : Bool) → is_real fs j ≡ b → a < real_before fs j + cond b 1 0
        → (a < real_before fs j → (i : ℕ) × (i < j) × (real_number fs i ≡ Some a))
        → (i : ℕ) × (i < suc j) × (real_number fs i ≡ Some a)
    pick (inl s) b e k next = let below = next s in let lt = below.1 in (below.0, omega (arith, lt), below.2)
    pick (inr s) true e k next =
        let same : real_before fs j ≡ a = omega (arith, s, k) in
        (j, omega arith, ap (λ z. cond z (Some (real_before fs j)) None) e ∙ ap (λ z. Some z) same)
    pick (inr s) false e k next = absurd (omega (arith, s, k))

-- no number is left out: each below that of a oneof is of a oneof before it
pub numbers_fill : (fs : List FieldInfo) (j b a : ℕ) → real_number fs j ≡ Some b → a < b
    → (i : ℕ) × (i < j) × (real_number fs i ≡ Some a)
numbers_fill fs j b a h l =
    let at = numbered fs j b h in
    let same = at.1 in numbers_whole fs j a (omega (arith, l, same))
