-- A rule is decided by the first byte with which it must be: no earlier and no later.
use Rattle.std.specs.Prelude.{◌≡◌, ◌++◌, ℕ, List}
use Rattle.base.specs.Bytes.{AreBytes}
use Rattle.h2_frames.specs.FrameErrors.{Verdict, Undecided, Keeps, Breaks}

-- bytes that may go on so that the rule is kept, and so that it is broken
pub record MayGoEitherWay (rule : List ℕ → Verdict) (bytes : List ℕ) : Type 0 where
  pub kept : List ℕ
  pub broken : List ℕ
  pub kept_bytes : AreBytes kept
  pub broken_bytes : AreBytes broken
  pub keeps : rule (bytes ++ kept) ≡ Keeps
  pub breaks : rule (bytes ++ broken) ≡ Breaks

-- what is decided stays, whatever bytes come, and what is not may still go either way
pub record IsDecidedAtOnce (rule : List ℕ → Verdict) : Type 0 where
  pub keeps : (bytes more : List ℕ) → AreBytes (bytes ++ more) → rule bytes ≡ Keeps → rule (bytes ++ more) ≡ Keeps
  pub breaks : (bytes more : List ℕ) → AreBytes (bytes ++ more) → rule bytes ≡ Breaks → rule (bytes ++ more) ≡ Breaks
  pub undecided : (bytes : List ℕ) → AreBytes bytes → rule bytes ≡ Undecided → MayGoEitherWay rule bytes
