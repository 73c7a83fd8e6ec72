use Rattle.base.proofs.ExtendsLemmas.{on_any, extends_more}
use Rattle.http1_answers.proofs.refusal_answer.write_bare.Goals as goal

pub returns-in_err-write_bare_lines-clause-err : goal.returns-in_err-write_bare_lines-clause-err
returns-in_err-write_bare_lines-clause-err c =
    on_any c.from_residual-in_err-write_bare_lines.result
    (extends_more _ _ _ (_, c.in_ok-write_status.ensures.ok) c.in_err-write_bare_lines.ensures.err)
