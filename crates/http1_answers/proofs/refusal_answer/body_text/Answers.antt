use Rattle.std.proofs.Common.{◌≡◌, ◌++◌, List, ap, ◌∙◌, ℕ}
use Rattle.std.specs.Str.Lossy.{utf8_lossy}
use Rattle.gate_world.specs.Refusals.{row_of, refusal_text}
use Rattle.status_map.specs.ErrorBody.{error_body}
use Rattle.http1_answers.proofs.RefusalTexts.{text_stays}
use Rattle.http1_answers.proofs.refusal_answer.body_text.Goals as goal

pub returns : goal.returns
returns c =
    let r = c.args.refusal in
    let put : c.put_text.new.out.items ≡ refusal_text r =
    c.in_ok-put_text.ensures.ok ∙ ap (λ (w : List ℕ). w ++ refusal_text r) c.new-text.ensures.items in
    let text : utf8_lossy c.deref.result.now ≡ refusal_text r =
    ap utf8_lossy (c.deref.ensures.value ∙ put) ∙ text_stays r in
    c.in_ok-put_error.ensures.ok
    ∙ ap (λ (w : List ℕ). w ++ error_body c.code.result (utf8_lossy c.deref.result.now)) c.new-body.ensures.items
    ∙ ap (λ (n : ℕ). error_body n (utf8_lossy c.deref.result.now)) c.code.ensures
    ∙ ap (λ (w : List ℕ). error_body (row_of r).grpc_code w) text
