use Rattle.std.proofs.Common.{subst, sym}
use Rattle.gateway_run.proofs.InputLemmas.{IsRead, leaves}
use Rattle.gateway_run.specs.CommandViews.{bind_view}
use Rattle.gateway_run.proofs.command_output.request_output.Goals as goal

pub returns-clause-left : goal.returns-clause-left
returns-clause-left g c =
    let told = g.I.Source.left c.args.input.now in
    let new = g.I.Source.left c.read_input.new.input in
    leaves c.args.api.now (bind_view c.args.words) c.as_slice.result.now told new
    (subst (λ z. IsRead told new z) (sym c.as_slice.ensures.value) c.in_ok-body.ensures.gives) c.bind_output.result c.bind_output.ensures
