use Rattle.std.proofs.Common.{◌∙◌, not}
use Rattle.http_rules.specs.Tokens.{is_lower_case_token}
use Rattle.gate_world.proofs.PolicyLemmas.{not_picked}
use Rattle.gate_world.specs.Policies.{is_reserved}
use Rattle.gate_world.proofs.examples.is_forwarded.Goals as goal

pub returns-clause-token : goal.returns-clause-token
returns-clause-token g c no_token =
    c.forwards.ensures
    ∙ not_picked (g.P.Policy.picks c.args.policy.now c.args.name.now) (is_lower_case_token c.args.name.now) (not (is_reserved c.args.name.now))
    (g.met.P.Policy.keeps c.args.policy.now c.args.name.now) no_token
