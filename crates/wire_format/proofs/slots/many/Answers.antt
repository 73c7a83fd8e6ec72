use Rattle.std.proofs.Common.{sym, ◌∙◌}
use Rattle.std.proofs.lemmas.Bool.{eqb-false}
use Rattle.wire_format.proofs.decoding.ItemLemmas.{many_some}
use Rattle.wire_format.proofs.slots.many.Goals as goal

pub returns : goal.returns
returns c = many_some c.args.items (eqb-false _ 0 (sym c.is_empty.ensures ∙ c.if-is_empty.false))
