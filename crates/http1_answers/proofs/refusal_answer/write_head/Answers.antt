use Rattle.base.proofs.ExtendsLemmas.{on_any, extends_more}
use Rattle.http1_answers.proofs.refusal_answer.write_head.Goals as goal

pub returns-in_err-write_options-clause-err : goal.returns-in_err-write_options-clause-err
returns-in_err-write_options-clause-err c =
    on_any c.from_residual-in_err-write_options.result
    (extends_more _ _ _ (_, c.in_ok-write_lines.ensures.ok) c.in_err-write_options.ensures.err)

pub returns-in_err-write_end-clause-err : goal.returns-in_err-write_end-clause-err
returns-in_err-write_end-clause-err c =
    on_any c.from_residual-in_err-write_end.result
    (extends_more _ _ _ (_, c.in_ok-write_lines.ensures.ok)
    (extends_more _ _ _ (_, c.in_ok-write_options.ensures.ok) c.in_err-write_end.ensures.err))
