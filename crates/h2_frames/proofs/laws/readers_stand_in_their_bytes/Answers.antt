use Rattle.h2_frames.proofs.PositionLemmas.{stands_within, answer_is_of_part}
use Rattle.h2_frames.proofs.laws.readers_stand_in_their_bytes.Goals as goal

pub returns-clause-stands : goal.returns-clause-stands
returns-clause-stands c = stands_within

pub returns-clause-parts : goal.returns-clause-parts
returns-clause-parts c = answer_is_of_part
