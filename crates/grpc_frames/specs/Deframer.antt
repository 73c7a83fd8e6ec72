-- What a deframer keeps of a stream of length-prefixed messages, and the streams for which it stands.
use Rattle.std.specs.Prelude.{◌≡◌, ◌-◌, ℕ, List, length, Option, Some, None}
use Rattle.base.specs.Saturated.{saturated}
use Rattle.grpc_frames.specs.declared.fault.FrameFault.{FrameFault}
use Rattle.grpc_frames.specs.declared.fault.FrameFault.TheVariants.{Compressed, BadFlag, TooLong, Cut, NoMemory}
use Rattle.grpc_frames.specs.LengthPrefixed.{FramingError, CompressedFlag, ReservedFlag, LengthOverLimit, deframed_of, MessageStream}

-- the limit, the place of the flag of the message that comes, the bytes from that flag on, and the
-- refusal that came, if one did
pub record DeframerState : Type 0 where
  pub limit : ℕ
  pub place : ℕ
  pub rest : List ℕ
  pub refused : Option FrameFault

-- how many bytes are kept
abbrev pub buffered_bytes : DeframerState → ℕ
buffered_bytes kept = length kept.rest

-- the fault that an error at a place is
abbrev pub fault_at : ℕ → FramingError → FrameFault
fault_at place CompressedFlag = Compressed place
fault_at place ReservedFlag = BadFlag place
fault_at place (LengthOverLimit n) = TooLong place n

-- a fact that holds of each fault but that memory was not found, of which nothing is said
abbrev pub UnlessNoMemory : FrameFault → Type 0 → Type 0
UnlessNoMemory NoMemory P = Unit {0}
UnlessNoMemory (Compressed place) P = P
UnlessNoMemory (BadFlag place) P = P
UnlessNoMemory (TooLong place n) P = P
UnlessNoMemory (Cut place) P = P

-- the fault is not that the stream ended inside a message
abbrev pub IsNoCut : FrameFault → Type 0
IsNoCut (Cut place) = ⊥
IsNoCut NoMemory = Unit {0}
IsNoCut (Compressed place) = Unit {0}
IsNoCut (BadFlag place) = Unit {0}
IsNoCut (TooLong place n) = Unit {0}

-- the fault is the error of a stream of so many bytes, at the place of its flag
pub record IsFirstFault (stream : MessageStream) (size : ℕ) (fault : FrameFault) : Type 0 where
  pub error : FramingError
  pub error_is : stream.error ≡ Some error
  pub fault_is : fault ≡ fault_at (saturated (size - length stream.rest)) error

-- where nothing is refused: nothing is wrong in the bytes, and those behind the last message are kept
pub record StandsUnrefused (kept : DeframerState) (bytes : List ℕ) : Type 0 where
  pub rest : (deframed_of kept.limit bytes).rest ≡ kept.rest
  pub error : (deframed_of kept.limit bytes).error ≡ None
  pub place : kept.place ≡ saturated (length bytes - length kept.rest)

-- the same by the refusal, which is the first fault of the bytes
abbrev pub StandsByRefusal : Option FrameFault → DeframerState → List ℕ → Type 0
StandsByRefusal None kept bytes = StandsUnrefused kept bytes
StandsByRefusal (Some f) kept bytes = UnlessNoMemory f (IsFirstFault (deframed_of kept.limit bytes) (length bytes) f)

-- a deframer that keeps this was given these bytes so far
pub record Stands (kept : DeframerState) (bytes : List ℕ) : Type 0 where
  pub by : StandsByRefusal kept.refused kept bytes
