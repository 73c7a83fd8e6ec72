use Rattle.std.proofs.Common.{◌≡◌, drop}
use Rattle.std.specs.List.{list_any}
use Rattle.gate_world.proofs.examples.forwards_one_of.Given as goal

abbrev pub invariant-loop-name : goal.invariant-loop-name
invariant-loop-name g l =
    list_any (λ name. g.P.Policy.picks l.policy name.now) (drop l.name-index l.names) ≡ list_any (λ name. g.P.Policy.picks l.policy name.now) l.names
