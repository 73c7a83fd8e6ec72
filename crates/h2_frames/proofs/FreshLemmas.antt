-- A new reader stands for no bytes.
use Rattle.std.proofs.Common.{◌≡◌, List, [], refl, ℕ, arith, None, subst, sym}
use Rattle.base.proofs.AreBytesLemmas.{AreBytes_none}
use Rattle.h2_frames.specs.Http2Frame.{cut, cut_at, cut_within, start, AreFrames, frames_of, first_fault}
use Rattle.h2_frames.specs.FrameErrors.{judge}
use Rattle.h2_frames.specs.FrameReader.{no_bytes, IsNoFault, Stands}
use Rattle.h2_frames.proofs.FrontLemmas.{nothing_fine}

-- no bytes are whole frames
pub no_frames : AreFrames []
unfolding cut cut_at cut_within
no_frames = record { rest = refl; fault = refl }

at_start : (cut []).context ≡ start
unfolding cut cut_at cut_within
at_start = refl

-- a reader that keeps nothing stands for no bytes
pub fresh : (head : List ℕ) → head ≡ [] → Stands (record { context = start; place = 0; head = head; left = 0; fault = None }) no_bytes
fresh head e = record { by = record { frames = no_frames; context = at_start; place = refl; head = e; left = λ p. absurd (omega arith); fine = subst (λ (xs : List ℕ). IsNoFault (judge start xs)) (sym e) (nothing_fine start); bytes = AreBytes_none } }

-- no bytes have no frames
pub no_frames_told : [] ≡ frames_of []
unfolding cut cut_at cut_within
no_frames_told = refl

-- no bytes have no fault
pub nothing_is_fine : first_fault [] ≡ None
unfolding cut cut_at cut_within
nothing_is_fine = refl
