-- The first fault of joined lists, and lists without faults, for the proofs of every crate that looks for faults in
-- order.
use Rattle.std.proofs.Common.{◌≡◌, ◌<◌, ◌+◌, ◌++◌, ℕ, Bool, true, false, List, [], ◌∷◌, Result, length, drop, get_or, not, refl, subst, sym, ap, ◌∙◌}
use Rattle.std.proofs.lemmas.List.{drop_more}
use Rattle.std.specs.List.{AllByRecursion, flat_map}
use Rattle.set_faults.specs.LinkFaults.{IsFirst, IsFirstOf, fault_if}
use Rattle.set_faults.specs.declared.fault.LinkFault.{LinkFault}
use Rattle.set_faults.specs.declared.fault.LinkFault.TheVariants.{At, NoMemory}

-- the first fault of a list is the first of a longer one
pub first_more : (e : LinkFault) (a b : List LinkFault) → IsFirst e a → IsFirst e (a ++ b)
first_more NoMemory a b h = tt
first_more (At k n s) [] b h = absurd (cc h)
first_more (At k n s) (x ∷ a) b h = h

-- and where nothing stands before
pub first_later : (e : LinkFault) (a b : List LinkFault) → a ≡ [] → IsFirst e b → IsFirst e (a ++ b)
first_later e a b n h = subst (λ z. IsFirst e (z ++ b)) (sym n) h

-- what stands behind nothing is the whole answer
pub first_of_later : {A : Type 0} (r : Result A LinkFault) (a b : List LinkFault) → a ≡ [] → IsFirstOf r b → IsFirstOf r (a ++ b)
first_of_later r a b n h = subst (λ z. IsFirstOf r (z ++ b)) (sym n) h

-- no fault in two lists is none in both
pub none_more : (a b : List LinkFault) → a ≡ [] → b ≡ [] → a ++ b ≡ []
none_more a b n m = ap (λ z. z ++ b) n ∙ m

-- an item without a fault is passed
pub past_item : {X : Type 0} (f : X → List LinkFault) (xs : List X) (i : ℕ) (x : X) → i < length xs → x ≡ get_or xs i x
    → f x ≡ [] → flat_map f (drop (i + 1) xs) ≡ flat_map f (drop i xs)
past_item f xs i x lt is none =
    ap (λ z. z ++ flat_map f (drop (i + 1) xs)) (sym none ∙ ap f is) ∙ sym (ap (flat_map f) (drop_more xs i x lt))

-- the first fault of an item is the first of a list, where the items before it have none
pub first_of_item : {X : Type 0} (f : X → List LinkFault) (e : LinkFault) (xs : List X) (i : ℕ) (x : X) → i < length xs → x ≡ get_or xs i x
    → flat_map f (drop i xs) ≡ flat_map f xs → IsFirst e (f x) → IsFirst e (flat_map f xs)
first_of_item f e xs i x lt is held h =
    let here : flat_map f (drop i xs) ≡ f x ++ flat_map f (drop (i + 1) xs) =
    ap (flat_map f) (drop_more xs i x lt) ∙ ap (λ z. f z ++ flat_map f (drop (i + 1) xs)) (sym is) in
    subst (IsFirst e) (sym here ∙ held) (first_more e (f x) (flat_map f (drop (i + 1) xs)) h)

-- where joined lists have no fault, each has none
pub none_parts : (a b : List LinkFault) → a ++ b ≡ [] → (a ≡ []) × (b ≡ [])
none_parts [] b h = (refl, h)
none_parts (x ∷ a) b h = absurd (cc h)

-- where a test has no fault, it fails
pub test_fails : (b : Bool) (f : LinkFault) → fault_if b f ≡ [] → b ≡ false
test_fails true f h = absurd (cc h)
test_fails false f h = refl

-- where a test that is turned round has no fault, it holds
pub test_holds : (b : Bool) (f : LinkFault) → fault_if (not b) f ≡ [] → b ≡ true
test_holds true f h = refl
test_holds false f h = absurd (cc h)

-- where no item of a list has a fault, each has none
pub each_faultless : {X : Type 0} (f : X → List LinkFault) (xs : List X) → flat_map f xs ≡ [] → AllByRecursion (λ x. f x ≡ []) xs
each_faultless f [] h = tt
each_faultless f (x ∷ xs) h = let parts = none_parts (f x) (flat_map f xs) h in (parts.0, each_faultless f xs parts.1)

pub ruleset first_faults = (first_more, first_later, first_of_later, none_more)
