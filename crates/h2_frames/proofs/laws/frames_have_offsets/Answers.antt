use Rattle.h2_frames.specs.Http2Frame.{frames_of}
use Rattle.h2_frames.proofs.OffsetLemmas.{frames_from_frames, frames_stand, rest_stands, sizes_sum, fault_stands, fault_breaks, next_offset}
use Rattle.h2_frames.proofs.NoFaultLemmas.{no_fault_is, fault_code}
use Rattle.h2_frames.proofs.laws.frames_have_offsets.Goals as goal

pub returns-clause-frames : goal.returns-clause-frames
returns-clause-frames c = λ bytes. frames_from_frames 0 (frames_of bytes)

pub returns-clause-stand : goal.returns-clause-stand
returns-clause-stand c = frames_stand

pub returns-clause-rest : goal.returns-clause-rest
returns-clause-rest c = rest_stands

pub returns-clause-size : goal.returns-clause-size
returns-clause-size c = sizes_sum

pub returns-clause-fault : goal.returns-clause-fault
returns-clause-fault c = fault_stands

pub returns-clause-next : goal.returns-clause-next
returns-clause-next c = next_offset

pub returns-clause-breaks : goal.returns-clause-breaks
returns-clause-breaks c = fault_breaks

pub returns-clause-none : goal.returns-clause-none
returns-clause-none c = no_fault_is

pub returns-clause-codes : goal.returns-clause-codes
returns-clause-codes c = fault_code
