use Rattle.base.proofs.ExtendsLemmas.{on_any, extends_more}
use Rattle.http1_answers.proofs.head_lines.write_status.Goals as goal

pub returns-in_err-write_phrase-clause-err : goal.returns-in_err-write_phrase-clause-err
returns-in_err-write_phrase-clause-err c =
    on_any c.from_residual-in_err-write_phrase.result
    (extends_more _ _ _ (_, c.in_ok-write_start.ensures.ok) c.in_err-write_phrase.ensures.err)
