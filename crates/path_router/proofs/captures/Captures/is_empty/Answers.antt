use Rattle.std.proofs.Common.{◌==◌, length, ap, sym, ◌∙◌, arith}
use Rattle.std.proofs.lemmas.List.{length-take-le}
use Rattle.path_router.proofs.captures.Captures.is_empty.Goals as goal

pub returns : goal.returns
returns c =
    ap (λ n. n == 0)
    (sym (length-take-le c.self.inside.len c.self.inside.spans
    (omega (arith, c.self.invariant.0, c.self.invariant.1))) ∙ ap length c.self.view_is)
