-- Calls of a deframer one after another, in whatever pieces a stream is given.
use Rattle.std.specs.Prelude.{◌≡◌, ◌++◌, ℕ, List, length, Result}
use Rattle.std.specs.Option.{option_to_list}
use Rattle.base.specs.PiecewiseReading.{PieceReader}
use Rattle.grpc_frames.specs.declared.deframer.Deframed.{Deframed as Fed}
use Rattle.grpc_frames.specs.declared.fault.FrameFault.{FrameFault}
use Rattle.grpc_frames.specs.LengthPrefixed.{deframed_of}
use Rattle.grpc_frames.specs.Deframer.{DeframerState, Stands, UnlessNoMemory, IsFirstFault}
use Rattle.grpc_frames.specs.FeedAnswers.{fed_bytes, Answers}

-- how many bytes a call took
abbrev pub taken_by : Fed → ℕ
taken_by fed = fed.taken

-- what `Deframer::feed` promises of one call, under a limit
pub record IsFeed (limit : ℕ) (old : DeframerState) (bytes : List ℕ)
    (result : Result Fed FrameFault) (new : DeframerState) : Type 0 where
  pub stands : (before : List ℕ) → Stands old before → Stands new (before ++ fed_bytes result bytes)
  pub answers : (before : List ℕ) → Stands old before → Answers limit before bytes result
  pub limit_is : old.limit ≡ limit
  pub limit_stays : new.limit ≡ limit

-- a deframer as a reader of pieces, which tells messages
abbrev pub deframing : ℕ → PieceReader DeframerState Fed FrameFault (List (List ℕ))
deframing limit = record {
  Step = IsFeed limit;
  taken = taken_by;
  tells = λ fed bytes told. told ++ option_to_list fed.message;
}

-- the fault is the first of the whole stream, whose messages are all told; nothing is said where memory was
-- not found
abbrev pub IsFirstOf : ℕ → List ℕ → List (List ℕ) → FrameFault → Type 0
IsFirstOf limit bytes told fault =
    UnlessNoMemory fault ((told ≡ (deframed_of limit bytes).messages)
    × IsFirstFault (deframed_of limit bytes) (length bytes) fault)
