use Rattle.h2_frames.proofs.ReadsBack.{read_back_frames, read_back_whole}
use Rattle.h2_frames.proofs.laws.frames_are_read_back.Goals as goal

pub returns-clause-frames : goal.returns-clause-frames
returns-clause-frames c = read_back_frames

pub returns-clause-whole : goal.returns-clause-whole
returns-clause-whole c = read_back_whole
