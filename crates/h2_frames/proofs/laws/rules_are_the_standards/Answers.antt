use Rattle.h2_frames.proofs.PaddingLemmas.{rules_are_kept, ten_fit}
use Rattle.h2_frames.proofs.KeptLemmas.{frames_keep, context_is, frame_follows}
use Rattle.h2_frames.proofs.HeadLemmas.{head_rules}
use Rattle.h2_frames.proofs.laws.rules_are_the_standards.Goals as goal

pub returns-clause-whole : goal.returns-clause-whole
returns-clause-whole c = rules_are_kept

pub returns-clause-head : goal.returns-clause-head
returns-clause-head c = head_rules

pub returns-clause-frames : goal.returns-clause-frames
returns-clause-frames c = frames_keep

pub returns-clause-padding : goal.returns-clause-padding
returns-clause-padding c = ten_fit

pub returns-clause-context : goal.returns-clause-context
returns-clause-context c = context_is

pub returns-clause-next : goal.returns-clause-next
returns-clause-next c = frame_follows
