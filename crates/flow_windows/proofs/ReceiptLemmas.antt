-- Lists of calls of a receipt.
use Rattle.std.proofs.Common.{◌≤◌, ◌/◌, ℕ, List, [], ◌∷◌, arith, refl, cond}
use Rattle.std.specs.Prelude.{nat_le, nat_lt}
use Rattle.std.proofs.lemmas.Bool.Decides.{nat_tests}
use Rattle.flow_windows.specs.Receipt.{Allowance, ReceiptCall, Received, Consumed, Granted, MayCount, received_by, consumed_by, granted_by, allowance_after, allowance_after_all, MayCountAll, IsSumOfCalls}

-- what one call counts is there
record IsCovered (a : Allowance) (call : ReceiptCall) : Type 0 where
  pub received : received_by a call ≤ a.rest
  pub consumed : consumed_by a call ≤ a.held
  pub granted : granted_by a call ≤ a.consumed

due_covered : (rest half consumed : ℕ) → cond (nat_le rest half) consumed 0 ≤ consumed
due_covered rest half consumed = grind (arith, nat_tests)

received_covered : (rest n : ℕ) → cond (nat_lt rest n) 0 n ≤ rest
received_covered rest n = grind (arith, nat_tests)

covered : (a : Allowance) (call : ReceiptCall) → MayCount a call → IsCovered a call
covered a (Received n) h = record { received = received_covered a.rest n; consumed = omega arith; granted = omega arith }
covered a (Consumed n) h = record { received = omega arith; consumed = h; granted = omega arith }
covered a Granted h = record { received = omega arith; consumed = omega arith; granted = due_covered a.rest (a.full / 2) a.consumed }

-- one call more
one_more : (start : Allowance) (call : ReceiptCall) (calls : List ReceiptCall) (a : Allowance) → IsCovered start call → IsSumOfCalls (allowance_after start call) calls a → IsSumOfCalls start (call ∷ calls) a
one_more start call calls a k s = record { full = s.full; rest = omega (arith, k.received, s.rest); consumed = omega (arith, k.granted, s.consumed); held = omega (arith, k.consumed, s.held); parts = omega (arith, k.received, k.consumed, k.granted, s.parts) }

-- the allowance is the sum of the calls
pub allowance_after_all_sum : (start : Allowance) (calls : List ReceiptCall) → MayCountAll start calls → IsSumOfCalls start calls (allowance_after_all start calls)
allowance_after_all_sum start [] h = record { full = refl; rest = refl; consumed = refl; held = refl; parts = refl }
allowance_after_all_sum start (call ∷ calls) h = one_more start call calls (allowance_after_all start (call ∷ calls)) (covered start call h.0) (allowance_after_all_sum (allowance_after start call) calls h.1)
