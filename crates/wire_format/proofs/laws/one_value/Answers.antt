use Rattle.std.proofs.Common.{sym, ◌∙◌}
use Rattle.wire_format.proofs.laws.one_value.Goals as goal

pub returns : goal.returns
returns c types id bytes v w p q = p.1 ∙ sym q.1
