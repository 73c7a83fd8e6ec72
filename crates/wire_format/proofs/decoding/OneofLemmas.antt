-- The records behind the last that passes a test, found from the front.
use Rattle.std.proofs.Common.{◌≡◌, ◌+◌, ◌<◌, ◌≤◌, ℕ, Bool, true, false, cond, List, [], ◌∷◌, length, drop, map, refl, ap, sym, ◌∙◌, arith, length-drop}
use Rattle.std.proofs.lemmas.List.{drop-drop, nil_from_length}
use Rattle.std.specs.Prelude.{◌||◌}
use Rattle.wire_format.specs.FieldValues.{since, first_passes}
use Rattle.std.specs.List.{list_any}

-- what stands behind the last that passes, where `kept` is left if none of the rest does
abbrev pub since_or : {A : Type 0} → (A → Bool) → List A → List A → List A
since_or p kept rest = cond (list_any p rest) (since p rest) kept

both : {A : Type 0} (b : Bool) (x y : A) → cond b (cond b x y) y ≡ cond b x y
both true x y = refl
both false x y = refl

-- all is kept before anything was tested
pub since_begins : {A : Type 0} (p : A → Bool) (xs : List A) → since_or p xs xs ≡ since p xs
since_begins p [] = refl
since_begins p (x ∷ xs) = both (list_any p (x ∷ xs)) (since p xs) (x ∷ xs)

set_step : {A : Type 0} (a b : Bool) (x y z : A) → a ≡ true → cond (a || b) (cond (a || b) x y) z ≡ x
set_step true b x y z h = refl
set_step false b x y z h = absurd (cc)

kept_step : {A : Type 0} (a b : Bool) (x y z : A) → a ≡ false → cond (a || b) (cond (a || b) x y) z ≡ cond b x z
kept_step true b x y z h = absurd (cc)
kept_step false true x y z h = refl
kept_step false false x y z h = refl

-- behind one that passes, what stands behind it is kept
pub since_set : {A : Type 0} (p : A → Bool) (kept : List A) (x : A) (xs : List A) → p x ≡ true → since_or p kept (x ∷ xs) ≡ since_or p xs xs
since_set p kept x xs h = set_step (p x) (list_any p xs) (since p xs) (x ∷ xs) kept h ∙ sym (since_begins p xs)

-- behind one that does not pass, the same is kept
pub since_kept : {A : Type 0} (p : A → Bool) (kept : List A) (x : A) (xs : List A) → p x ≡ false → since_or p kept (x ∷ xs) ≡ since_or p kept xs
since_kept p kept x xs h = kept_step (p x) (list_any p xs) (since p xs) (x ∷ xs) kept h

module _ {A B : Type 0} (p : A → Bool) (f : B → A) (rs : List B) (at start : ℕ) (t : List A) where
  step : (x : B) (xs : List B) (b : Bool) (n : ℕ) → xs ≡ drop (at + 1) rs → b ≡ p (f x) → n ≡ cond b (at + 1) start → since_or p (map f (drop start rs)) (f x ∷ map f xs) ≡ t
      → since_or p (map f (drop n rs)) (map f (drop (at + 1) rs)) ≡ t
  step x xs true n is q r told =
      rw (r, sym is) (sym (since_set p (map f (drop start rs)) (f x) (map f xs) (sym q)) ∙ told)
  step x xs false n is q r told =
      rw (r, sym is) (sym (since_kept p (map f (drop start rs)) (f x) (map f xs) (sym q)) ∙ told)

  -- one record more
  pub since_next : (left : List B) (b : Bool) (n : ℕ) → at < length rs → left ≡ drop at rs → b ≡ first_passes p (map f left) → n ≡ cond b (at + 1) start → since_or p (map f (drop start rs)) (map f (drop at rs)) ≡ t
      → since_or p (map f (drop n rs)) (map f (drop (at + 1) rs)) ≡ t
  since_next [] b n l is q r told = absurd (let none : 0 ≡ length (drop at rs) = ap length is in omega (arith, none, length-drop at rs))
  since_next (x ∷ xs) b n l is q r told =
      step x xs b n (ap (drop 1) is ∙ drop-drop 1 at rs) q r (ap (λ (ys : List B). since_or p (map f (drop start rs)) (map f ys)) is ∙ told)

  -- all records
  pub since_end : length rs ≤ at → since_or p (map f (drop start rs)) (map f (drop at rs)) ≡ t → map f (drop start rs) ≡ t
  since_end l told =
      let gone : drop at rs ≡ [] = nil_from_length (drop at rs) (omega (arith, length-drop at rs)) in
      sym (ap (λ (ys : List B). since_or p (map f (drop start rs)) (map f ys)) gone) ∙ told

-- an index that is one behind or as it was is within
pub between : (b : Bool) (n at start k : ℕ) → n ≡ cond b (at + 1) start → at < k → start ≤ k → n ≤ k
between true n at start k e l h = omega (arith, e)
between false n at start k e l h = omega (arith, e)
