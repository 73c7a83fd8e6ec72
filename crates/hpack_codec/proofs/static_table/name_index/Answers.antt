use Rattle.std.proofs.Common.{◌∙◌, sym, arith, refl}
use Rattle.hpack_codec.specs.StaticTable.{static_table}
use Rattle.hpack_codec.specs.EncodedBlock.{static_name_index}
use Rattle.hpack_codec.proofs.IndexLemmas.{name_here, name_later, name_never}
use Rattle.hpack_codec.proofs.static_table.name_index.Goals as goal

pub loop-i-init : goal.loop-i-init
unfolding static_name_index
loop-i-init c = refl

pub returns-then-has_name : goal.returns-then-has_name
returns-then-has_name c = sym (c.loop-i.invariant ∙ name_here static_table c.loop-i.i c.args.name.now (omega arith) (sym c.has_name.ensures ∙ c.if-has_name.true))

pub loop-i-preserved : goal.loop-i-preserved
loop-i-preserved c = c.loop-i.invariant ∙ name_later static_table c.loop-i.i c.args.name.now (omega arith) (sym c.has_name.ensures ∙ c.if-has_name.false)

pub returns : goal.returns
returns c = sym (c.loop-i.invariant ∙ name_never static_table c.loop-i.i c.args.name.now (omega arith))
