use Rattle.gateway_run.proofs.OutputLemmas.{told_line}
use Rattle.gateway_run.proofs.offline.run_offline.Goals as goal

pub returns-clause-ran : goal.returns-clause-ran
returns-clause-ran g c =
    rw c.status.ensures (told_line c.in-Err.stop _ _ _ _ c.write_line.result c.write_line.ensures.written c.write_line.ensures.part c.write_line.ensures.failed c.in-Err.ensures.answers)
