-- What a deframer answers, by the whole stream of the bytes that it was given.
use Rattle.std.specs.Prelude.{◌≡◌, ◌≢◌, ◌≤◌, ◌-◌, ◌++◌, ℕ, List, [], ◌∷◌, length, take, Option, Some, None, Result, Ok, Err}
use Rattle.grpc_frames.specs.declared.deframer.Deframed.{Deframed as Fed}
use Rattle.grpc_frames.specs.declared.fault.FrameFault.{FrameFault}
use Rattle.grpc_frames.specs.declared.fault.FrameFault.TheVariants.{Compressed, BadFlag, TooLong, Cut, NoMemory}
use Rattle.grpc_frames.specs.LengthPrefixed.{deframed_of}
use Rattle.base.specs.Saturated.{saturated}
use Rattle.grpc_frames.specs.Deframer.{UnlessNoMemory, IsFirstFault}

-- the bytes that a call adds to the stream: those that it took, or all of them where it refused
abbrev pub fed_bytes : Result Fed FrameFault → List ℕ → List ℕ
fed_bytes (Ok d) bytes = take d.taken bytes
fed_bytes (Err f) bytes = bytes

-- without a message all bytes were taken and complete none; with one they end with it
abbrev pub AnswersOk : ℕ → List ℕ → List ℕ → ℕ → Option (List ℕ) → Type 0
AnswersOk limit before bytes n None = (n ≡ length bytes)
    × (deframed_of limit (before ++ bytes) ≡ record { messages = (deframed_of limit before).messages; rest = (deframed_of limit before).rest ++ bytes; error = None })
AnswersOk limit before bytes n (Some m) = (n ≤ length bytes)
    × (deframed_of limit (before ++ take n bytes) ≡ record { messages = (deframed_of limit before).messages ++ m ∷ []; rest = []; error = None })

-- the answer to bytes that come behind others is that of the whole stream: one more message, none,
-- or its first fault with no further message
abbrev pub Answers : ℕ → List ℕ → List ℕ → Result Fed FrameFault → Type 0
Answers limit before bytes (Ok d) = AnswersOk limit before bytes d.taken d.message
Answers limit before bytes (Err f) = UnlessNoMemory f (((deframed_of limit (before ++ bytes)).messages ≡ (deframed_of limit before).messages) × IsFirstFault (deframed_of limit (before ++ bytes)) (length (before ++ bytes)) f)

-- a stream that ends here ends between two messages
abbrev pub EndsBetweenMessages : ℕ → List ℕ → Type 0
EndsBetweenMessages limit bytes = ((deframed_of limit bytes).rest ≡ []) × ((deframed_of limit bytes).error ≡ None)

-- what is wrong with a stream that ends here: its first fault, or that its last message is cut
abbrev pub IsEndFault : ℕ → List ℕ → FrameFault → Type 0
IsEndFault limit bytes NoMemory = Unit {0}
IsEndFault limit bytes (Compressed place) = IsFirstFault (deframed_of limit bytes) (length bytes) (Compressed place)
IsEndFault limit bytes (BadFlag place) = IsFirstFault (deframed_of limit bytes) (length bytes) (BadFlag place)
IsEndFault limit bytes (TooLong place n) = IsFirstFault (deframed_of limit bytes) (length bytes) (TooLong place n)
IsEndFault limit bytes (Cut place) = ((deframed_of limit bytes).error ≡ None) × ((deframed_of limit bytes).rest ≢ []) × (place ≡ saturated (length bytes - length (deframed_of limit bytes).rest))
