use Rattle.std.proofs.Common.{◌∷◌, [], map, arith, ap, ◌∙◌}
use Rattle.std.proofs.lemmas.List.{map-append}
use Rattle.wire_records.specs.RecordViews.{raw_of}
use Rattle.wire_records.proofs.RecordListLemmas.{collect_more, collect_stop}
use Rattle.wire_records.proofs.collected.records_of.Goals as goal

pub loop-at-preserved : goal.loop-at-preserved
loop-at-preserved c = record {
  within = omega (arith, c.in-Ok.ensures.within, c.split_at.ensures.back_len);
  told = collect_more c.args.level c.args.bytes.now c.loop-at.at _ c.split_at.ensures.back (map raw_of c.loop-at.found.items) _ c.loop-at.invariant.told (raw_of c.in-Ok.record) _ c.in-Ok.ensures.within.0 c.in-Ok.ensures.value
      (ap (map raw_of) c.in_ok-push-in-Ok.ensures.items ∙ map-append raw_of c.loop-at.found.items (c.in-Ok.record ∷ []));
}

pub returns-in-Err : goal.returns-in-Err
returns-in-Err c = collect_stop c.args.level c.args.bytes.now c.loop-at.at _ c.split_at.ensures.back (map raw_of c.loop-at.found.items) _ c.loop-at.invariant.told _ c.in-Err.ensures.value
