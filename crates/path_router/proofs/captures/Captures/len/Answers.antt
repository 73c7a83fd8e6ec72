use Rattle.std.proofs.Common.{length, ap, sym, ◌∙◌, arith}
use Rattle.std.proofs.lemmas.List.{length-take-le}
use Rattle.path_router.proofs.captures.Captures.len.Goals as goal

pub returns-clause-len : goal.returns-clause-len
returns-clause-len c =
    sym (length-take-le c.self.inside.len c.self.inside.spans (omega (arith, c.self.invariant.0, c.self.invariant.1)))
    ∙ ap length c.self.view_is
