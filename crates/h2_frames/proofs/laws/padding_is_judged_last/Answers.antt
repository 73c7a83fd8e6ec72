use Rattle.h2_frames.proofs.PaddingLemmas.{head_waits}
use Rattle.h2_frames.proofs.laws.padding_is_judged_last.Goals as goal

pub returns : goal.returns
returns c = head_waits
