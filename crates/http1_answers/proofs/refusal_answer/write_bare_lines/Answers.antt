use Rattle.base.proofs.ExtendsLemmas.{on_any, extends_more}
use Rattle.http1_answers.proofs.refusal_answer.write_bare_lines.Goals as goal

pub returns-in_err-write_field-2-clause-err : goal.returns-in_err-write_field-2-clause-err
returns-in_err-write_field-2-clause-err c =
    on_any c.from_residual-in_err-write_field-2.result
    (extends_more _ _ _ (_, c.in_ok-write_field.ensures.ok) c.in_err-write_field-2.ensures.err)

pub returns-in_err-write_end-clause-err : goal.returns-in_err-write_end-clause-err
returns-in_err-write_end-clause-err c =
    on_any c.from_residual-in_err-write_end.result
    (extends_more _ _ _ (_, c.in_ok-write_field.ensures.ok)
    (extends_more _ _ _ (_, c.in_ok-write_field-2.ensures.ok) c.in_err-write_end.ensures.err))
