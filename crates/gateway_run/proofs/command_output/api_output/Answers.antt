use Rattle.std.proofs.Common.{ap, subst, sym}
use Rattle.gateway_run.proofs.InputLemmas.{of_bind, reads_nothing}
use Rattle.gateway_run.specs.CommandOutput.{Prints}
use Rattle.gateway_run.specs.CommandViews.{bind_view, command_view}
use Rattle.gateway_run.proofs.command_output.api_output.Goals as goal

pub returns-in-Bind-clause-gives : goal.returns-in-Bind-clause-gives
returns-in-Bind-clause-gives g c =
    of_bind (command_view c.args.command) (bind_view c.in-Bind.words) _ _ c.args.api.now (ap command_view c.in-Bind.is) c.request_output.result c.request_output.ensures.gives

pub returns-in-Bind-clause-unread : goal.returns-in-Bind-clause-unread
returns-in-Bind-clause-unread g c n = absurd (n (bind_view c.in-Bind.words, ap command_view c.in-Bind.is))

pub returns-in_ok-check_text-in-Check-clause-gives : goal.returns-in_ok-check_text-in-Check-clause-gives
returns-in_ok-check_text-in-Check-clause-gives g c =
    reads_nothing _ _ (λ held. subst (λ z. Prints c.args.api.now z held c.in_ok-check_text-in-Check.field-0.items) (sym (ap command_view c.in-Check.is)) c.in_ok-check_text-in-Check.ensures)

pub returns-in_ok-routes_text-in-Routes-clause-gives : goal.returns-in_ok-routes_text-in-Routes-clause-gives
returns-in_ok-routes_text-in-Routes-clause-gives g c =
    reads_nothing _ _ (λ held. subst (λ z. Prints c.args.api.now z held c.in_ok-routes_text-in-Routes.field-0.items) (sym (ap command_view c.in-Routes.is)) c.in_ok-routes_text-in-Routes.ensures)
