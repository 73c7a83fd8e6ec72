use Rattle.std.proofs.Common.{◌∙◌, sym, arith, refl}
use Rattle.hpack_codec.specs.StaticTable.{static_table}
use Rattle.hpack_codec.specs.EncodedBlock.{static_field_index}
use Rattle.hpack_codec.proofs.IndexLemmas.{field_here, field_later, field_never}
use Rattle.hpack_codec.proofs.static_table.field_index.Goals as goal

pub loop-i-init : goal.loop-i-init
unfolding static_field_index
loop-i-init c = refl

pub returns-then-has_field : goal.returns-then-has_field
returns-then-has_field c = sym (c.loop-i.invariant ∙ field_here static_table c.loop-i.i (c.args.name.now, c.args.value.now) (omega arith) (sym c.has_field.ensures ∙ c.if-has_field.true))

pub loop-i-preserved : goal.loop-i-preserved
loop-i-preserved c = c.loop-i.invariant ∙ field_later static_table c.loop-i.i (c.args.name.now, c.args.value.now) (omega arith) (sym c.has_field.ensures ∙ c.if-has_field.false)

pub returns : goal.returns
returns c = sym (c.loop-i.invariant ∙ field_never static_table c.loop-i.i (c.args.name.now, c.args.value.now) (omega arith))
