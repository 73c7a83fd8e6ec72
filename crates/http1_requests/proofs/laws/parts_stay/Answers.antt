use Rattle.http1_requests.proofs.CutLaw.{heads_cut, sections_cut, lines_cut}
use Rattle.http1_requests.proofs.laws.parts_stay.Goals as goal

pub returns-clause-heads : goal.returns-clause-heads
returns-clause-heads c = heads_cut

pub returns-clause-sections : goal.returns-clause-sections
returns-clause-sections c = sections_cut

pub returns-clause-lines : goal.returns-clause-lines
returns-clause-lines c = lines_cut
