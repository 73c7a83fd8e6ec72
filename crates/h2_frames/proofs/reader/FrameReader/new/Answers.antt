use Rattle.h2_frames.proofs.FreshLemmas.{fresh}
use Rattle.h2_frames.proofs.reader.FrameReader.new.Goals as goal

pub returns-clause-stands : goal.returns-clause-stands
returns-clause-stands c = fresh c.in_ok-head.head.items c.in_ok-head.ensures.items
