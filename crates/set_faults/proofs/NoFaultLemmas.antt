-- Lists without faults, made of their parts.
use Rattle.std.proofs.Common.{◌≡◌, ◌++◌, Bool, true, false, cond, List, [], ◌∷◌, not, refl}
use Rattle.std.specs.List.{AllByRecursion, flat_map}
use Rattle.set_faults.specs.LinkFaults.{fault_if}
use Rattle.set_faults.specs.declared.fault.LinkFault.{LinkFault}
use Rattle.set_faults.proofs.Theorems.{none_more}

-- no fault in two lists is none in both
pub none_both : {a b : List LinkFault} → a ≡ [] → b ≡ [] → a ++ b ≡ []
none_both {a} {b} h k = none_more a b h k

-- a test that fails has no fault
pub no_fault : (b : Bool) (f : LinkFault) → b ≡ false → fault_if b f ≡ []
no_fault true f h = absurd (cc h)
no_fault false f h = refl

-- and so has one that holds and is turned round
pub no_fault_not : (b : Bool) (f : LinkFault) → b ≡ true → fault_if (not b) f ≡ []
no_fault_not true f h = refl
no_fault_not false f h = absurd (cc h)

-- where a list stands only if a test holds, and is empty then, there is none
pub if_only : (t : Bool) (fs : List LinkFault) → (t ≡ true → fs ≡ []) → cond t fs [] ≡ []
if_only true fs h = h refl
if_only false fs h = refl

-- where no item has a fault, a list has none
pub none_of_each : {X : Type 0} (f : X → List LinkFault) (xs : List X) → AllByRecursion (λ x. f x ≡ []) xs
    → flat_map f xs ≡ []
none_of_each f [] a = refl
none_of_each f (x ∷ xs) a = none_more (f x) (flat_map f xs) a.0 (none_of_each f xs a.1)
