use Rattle.h2_frames.proofs.RunLemmas.{run_tells, run_offset, run_refused, run_told, position_after_reads}
use Rattle.h2_frames.proofs.laws.parts_are_frames.Goals as goal

pub returns-clause-parts : goal.returns-clause-parts
returns-clause-parts c = run_tells

pub returns-clause-refused : goal.returns-clause-refused
returns-clause-refused c = run_refused

pub returns-clause-told : goal.returns-clause-told
returns-clause-told c = run_told

pub returns-clause-read : goal.returns-clause-read
returns-clause-read c = position_after_reads

pub returns-clause-offset : goal.returns-clause-offset
returns-clause-offset c = run_offset
