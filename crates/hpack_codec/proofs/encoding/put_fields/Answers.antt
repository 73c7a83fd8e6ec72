use Rattle.std.proofs.Common.{◌++◌}
use Rattle.hpack_codec.specs.EncodedBlock.{encoded_field}
use Rattle.base.proofs.ExtendsLemmas.{extends_more, on_any}
use Rattle.hpack_codec.proofs.EncodingLemmas.{bytes_of, extends_field, one_more}
use Rattle.hpack_codec.proofs.encoding.put_fields.Goals as goal

pub returns-in_err-put_field-clause-err : goal.returns-in_err-put_field-clause-err
returns-in_err-put_field-clause-err c =
    on_any c.from_residual.result (extends_more c.args.out.now.items c.loop-field.out.items c.put_field.new.out.items c.loop-field.invariant.kept c.in_err-put_field.ensures.err)

pub loop-field-preserved : goal.loop-field-preserved
loop-field-preserved c = record {
  kept = extends_field c.args.out.now.items c.loop-field.out.items c.put_field.new.out.items (encoded_field (c.as_slice.result.now, c.as_slice-in-loop-field.result.now)) c.loop-field.invariant.kept c.in_ok-put_field.ensures.ok;
  told = one_more c.loop-field.out.items c.put_field.new.out.items c.as_slice.result.now c.as_slice-in-loop-field.result.now (c.args.out.now.items ++ bytes_of c.args.fields.now) c.args.fields.now
      c.loop-field.field-index c.field-item.result c.loop-field-test.true c.field-item.is c.as_slice.ensures c.as_slice-in-loop-field.ensures c.in_ok-put_field.ensures.ok c.loop-field.invariant.told;
}
