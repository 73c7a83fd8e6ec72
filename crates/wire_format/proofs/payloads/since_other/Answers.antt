use Rattle.std.proofs.Common.{map, arith}
use Rattle.wire_format.specs.FieldValues.{sets_other}
use Rattle.wire_records.specs.RecordViews.{raw_of}
use Rattle.wire_format.proofs.decoding.OneofLemmas.{since_begins, since_next, between}
use Rattle.wire_format.proofs.payloads.since_other.Goals as goal

pub loop-at-init : goal.loop-at-init
loop-at-init c = record {
  begun = omega arith;
  within = omega arith;
  told = since_begins (sets_other c.args.types.now c.args.fields.now c.args.oneof c.args.number) (map raw_of c.args.records.now);
}

pub loop-at-preserved : goal.loop-at-preserved
loop-at-preserved c = record {
  begun = between c.begins_other-is_other.result _ c.loop-at.at c.loop-at.start _ c.start_at-start.ensures c.loop-at-test.true c.loop-at.invariant.begun;
  within = omega (arith, c.loop-at-test.true);
  told = since_next (sets_other c.args.types.now c.args.fields.now c.args.oneof c.args.number) raw_of c.args.records.now c.loop-at.at c.loop-at.start _ _ c.begins_other-is_other.result _ c.loop-at-test.true c.split_at.ensures.back c.begins_other-is_other.ensures c.start_at-start.ensures c.loop-at.invariant.told;
}
