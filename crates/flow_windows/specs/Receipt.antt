-- The receiving side of one flow-control window (RFC 9113, section 6.9.1). All numbers are bytes
-- of DATA payload with its padding.
use Rattle.std.specs.Prelude.{◌≡◌, ◌≤◌, ◌+◌, ◌-◌, ◌/◌, ℕ, nat_le, nat_lt, if◌then◌else◌, List, [], ◌∷◌}

-- the size when all is granted, what the peer may still send, what was consumed and not granted
-- again, and what came and was not consumed
pub record Allowance : Type 0 where
  pub full : ℕ
  pub rest : ℕ
  pub consumed : ℕ
  pub held : ℕ

-- the allowance with these four numbers
abbrev pub allowance : ℕ → ℕ → ℕ → ℕ → Allowance
allowance full rest consumed held = record { full = full; rest = rest; consumed = consumed; held = held }

-- what a WINDOW_UPDATE grants again, once at most half of the window is left
abbrev pub due_of : Allowance → ℕ
due_of a = if nat_le a.rest (a.full / 2) then a.consumed else 0

-- a call: bytes that came, bytes that were consumed, the due increment that was granted
pub data ReceiptCall : Type 0 where
  Received : ℕ → ReceiptCall
  Consumed : ℕ → ReceiptCall
  Granted : ReceiptCall

-- what the call needs
abbrev pub MayCount : Allowance → ReceiptCall → Type 0
MayCount a (Received n) = Unit {0}
MayCount a (Consumed n) = n ≤ a.held
MayCount a Granted = Unit {0}

-- what came in the call: nothing where it is more than the peer may still send
abbrev pub received_by : Allowance → ReceiptCall → ℕ
received_by a (Received n) = if nat_lt a.rest n then 0 else n
received_by a (Consumed n) = 0
received_by a Granted = 0

-- what was consumed in the call
abbrev pub consumed_by : Allowance → ReceiptCall → ℕ
consumed_by a (Received n) = 0
consumed_by a (Consumed n) = n
consumed_by a Granted = 0

-- what was granted again in the call
abbrev pub granted_by : Allowance → ReceiptCall → ℕ
granted_by a (Received n) = 0
granted_by a (Consumed n) = 0
granted_by a Granted = due_of a

-- the allowance after the call
abbrev pub allowance_after : Allowance → ReceiptCall → Allowance
allowance_after a call = allowance a.full (a.rest + granted_by a call - received_by a call) (a.consumed + consumed_by a call - granted_by a call) (a.held + received_by a call - consumed_by a call)

-- the allowance after all of the calls
abbrev pub allowance_after_all : Allowance → List ReceiptCall → Allowance
allowance_after_all a [] = a
allowance_after_all a (call ∷ calls) = allowance_after_all (allowance_after a call) calls

-- each call has what it needs
abbrev pub MayCountAll : Allowance → List ReceiptCall → Type 0
MayCountAll a [] = Unit {0}
MayCountAll a (call ∷ calls) = MayCount a call × MayCountAll (allowance_after a call) calls

-- the sum of an amount over the calls
abbrev pub total_of : (Allowance → ReceiptCall → ℕ) → Allowance → List ReceiptCall → ℕ
total_of amount a [] = 0
total_of amount a (call ∷ calls) = amount a call + total_of amount (allowance_after a call) calls

-- the allowance is what the sums say: with nothing below 0, each side of an equation is a sum
pub record IsSumOfCalls (start : Allowance) (calls : List ReceiptCall) (a : Allowance) : Type 0 where
  pub full : a.full ≡ start.full
  pub rest : a.rest + total_of received_by start calls ≡ start.rest + total_of granted_by start calls
  pub consumed : a.consumed + total_of granted_by start calls ≡ start.consumed + total_of consumed_by start calls
  pub held : a.held + total_of consumed_by start calls ≡ start.held + total_of received_by start calls
  pub parts : a.rest + a.consumed + a.held ≡ start.rest + start.consumed + start.held
