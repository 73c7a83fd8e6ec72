use Rattle.h2_frames.proofs.FaultLemmas.{first_fault-append, fault_frames, frames_of-append}
use Rattle.h2_frames.proofs.SteadyLemmas.{judge_grows, fine_grows}
use Rattle.h2_frames.proofs.laws.faults_and_frames_stay.Goals as goal

pub returns-clause-faults : goal.returns-clause-faults
returns-clause-faults c = first_fault-append

pub returns-clause-frames : goal.returns-clause-frames
returns-clause-frames c = λ bytes more. let m = frames_of-append bytes more in (m.others, m.is)

pub returns-clause-all_frames : goal.returns-clause-all_frames
returns-clause-all_frames c = fault_frames

pub returns-clause-judged : goal.returns-clause-judged
returns-clause-judged c = judge_grows

pub returns-clause-fine : goal.returns-clause-fine
returns-clause-fine c = fine_grows
