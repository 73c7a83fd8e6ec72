use Rattle.std.proofs.Common.{ℕ, Vec, Global, subst, Err}
use Rattle.gateway_run.proofs.InputLemmas.{refused}
use Rattle.gateway_run.specs.CommandViews.{bind_view}
use Rattle.transcoding.specs.TranscodedRequest.{IsTranscoding}
use Rattle.gateway_run.proofs.bind_command.bind_output.Goals as goal

pub returns : goal.returns
returns c =
    let api = c.args.api.now in
    let body = c.args.body.now in
    let r = c.in-Err.refusal in
    let means = subst (λ z. IsTranscoding api z c.args.words.target.now body (Err r)) c.as_bytes-method.ensures.value
    (subst (λ z. IsTranscoding api c.as_bytes-method.result.now z body (Err r)) c.as_bytes-target.ensures.value c.in-Err.ensures) in
    refused {A = Vec ℕ Global} (λ _. Unit {0}) api (bind_view c.args.words) body r c.from.result means c.from.ensures
