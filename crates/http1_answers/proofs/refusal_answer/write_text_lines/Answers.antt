use Rattle.std.proofs.Common.{◌++◌, ◌∙◌, ap, append_assoc, codes, List, ℕ}
use Rattle.std.specs.Prelude.{decimal}
use Rattle.base.proofs.ExtendsLemmas.{on_any, extends_more}
use Rattle.http1_answers.specs.AnswerLines.{field_line}
use Rattle.http1_answers.proofs.refusal_answer.write_text_lines.Goals as goal

pub returns-in_err-write_field-2-clause-err : goal.returns-in_err-write_field-2-clause-err
returns-in_err-write_field-2-clause-err c =
    on_any c.from_residual-in_err-write_field-2.result
    (extends_more _ _ _ (_, c.in_ok-write_field.ensures.ok) c.in_err-write_field-2.ensures.err)

pub returns-clause-ok : goal.returns-clause-ok
returns-clause-ok c =
    let kind = field_line (codes "content-type") (codes "application/json") in
    let size = field_line (codes "content-length") (decimal c.args.len) in
    c.in_ok-write_field-2.ensures.ok
    ∙ ap (λ (w : List ℕ). c.write_field.new.out.items ++ field_line (codes "content-length") w)
    (c.as_bytes.ensures.value ∙ c.format.ensures.text)
    ∙ ap (λ (w : List ℕ). w ++ size) c.in_ok-write_field.ensures.ok
    ∙ append_assoc c.args.out.now.items kind size
