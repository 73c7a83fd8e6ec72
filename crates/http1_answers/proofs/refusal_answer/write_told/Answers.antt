use Rattle.std.proofs.Common.{◌≡◌, ◌++◌, ◌∙◌, ap, append_assoc, length, List, ℕ}
use Rattle.base.proofs.ExtendsLemmas.{on_any}
use Rattle.gate_world.specs.Refusals.{row_of}
use Rattle.http1_answers.specs.RefusalAnswers.{allow_line, close_line, refusal_body, told_head}
use Rattle.http1_answers.proofs.refusal_answer.write_told.Goals as goal

pub returns-in_err-extend_from_slice-clause-err : goal.returns-in_err-extend_from_slice-clause-err
returns-in_err-extend_from_slice-clause-err c =
    on_any c.from_residual-in_err-extend_from_slice.result
    (_, c.in_err-extend_from_slice.ensures.items ∙ c.in_ok-write_head.ensures.ok)

pub returns-clause-ok : goal.returns-clause-ok
returns-clause-ok c =
    let r = c.args.refusal in
    let out = c.args.out.now.items in
    let status = (row_of r).http_status in
    let more = allow_line r c.args.allow.now ++ close_line c.args.close in
    let text : c.as_slice-text.result.now ≡ refusal_body r = c.as_slice-text.ensures.value ∙ c.in_ok-body.ensures in
    c.in_ok-extend_from_slice.ensures.items
    ∙ ap (λ (w : List ℕ). c.write_head.new.out.items ++ w) text
    ∙ ap (λ (w : List ℕ). w ++ refusal_body r) c.in_ok-write_head.ensures.ok
    ∙ ap (λ (n : ℕ). (out ++ told_head status n more) ++ refusal_body r)
    (ap (λ (w : List ℕ). length w) text)
    ∙ append_assoc out (told_head status (length (refusal_body r)) more) (refusal_body r)
