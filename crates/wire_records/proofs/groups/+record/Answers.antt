use Rattle.std.proofs.Common.{◌∙◌, ◌-◌, ap, sym, Ok, Err, Some, None, ℕ, arith}
use Rattle.wire_records.specs.WireRecord.{onward, group_in, Stop}
use Rattle.wire_records.specs.RecordViews.{raw_of}
use Rattle.wire_records.proofs.RestLemmas.{group_none, group_open, group_ends, group_stops, group_goes_on, add_twice, group_done}
use Rattle.wire_records.proofs.groups.+record.Goals as goal

pub group_of-returns-then-level-eq0-clause-value : goal.group_of-returns-then-level-eq0-clause-value
group_of-returns-then-level-eq0-clause-value t c = sym (group_none c.args.level c.args.len c.args.number c.args.rest.now c.if-level-eq0.true)

pub group_of-returns-in-Some-clause-value : goal.group_of-returns-in-Some-clause-value
group_of-returns-in-Some-clause-value t c =
    sym (group_open c.args.level c.args.len c.args.number c.args.rest.now c.loop-at.invariant.some
    ∙ ap (onward c.args.len) (group_ends (group_in (c.args.level - 1)) c.args.number c.args.rest.now _ c.loop-at.at c.loop-at-test.true c.loop-at.invariant.told _ c.split_at.ensures.back c.in-Some.end c.in-Some.ensures.value)
    ∙ ap (λ (x : ℕ). Ok x) (sym (add_twice c.args.len c.loop-at.at c.in-Some.end)))

pub group_of-loop-at-preserved : goal.group_of-loop-at-preserved
group_of-loop-at-preserved t c = record {
  some = c.loop-at.invariant.some;
  within = omega (arith, c.in-Ok.ensures.within);
  told = group_goes_on (group_in (c.args.level - 1)) c.args.number c.args.rest.now _ c.loop-at.at c.loop-at-test.true c.loop-at.invariant.told _ c.split_at.ensures.back (raw_of c.in-Ok.found) (omega (arith, c.in-Ok.ensures.within)) c.in-None.ensures.value c.in-Ok.ensures.value;
}

pub group_of-returns-in-Err-None-clause-value : goal.group_of-returns-in-Err-None-clause-value
group_of-returns-in-Err-None-clause-value t c =
    sym (group_open c.args.level c.args.len c.args.number c.args.rest.now c.loop-at.invariant.some
    ∙ ap (onward c.args.len) (group_stops (group_in (c.args.level - 1)) c.args.number c.args.rest.now _ c.loop-at.at c.loop-at-test.true c.loop-at.invariant.told _ c.split_at.ensures.back None c.in-None.ensures.value (c.in-Err-None.ensures.value ∙ ap (λ (x : Stop). Err x) c.in-Err-None.field-0-is)))

pub group_of-returns-in-Err-Some-clause-value : goal.group_of-returns-in-Err-Some-clause-value
group_of-returns-in-Err-Some-clause-value t c =
    sym (group_open c.args.level c.args.len c.args.number c.args.rest.now c.loop-at.invariant.some
    ∙ ap (onward c.args.len) (group_stops (group_in (c.args.level - 1)) c.args.number c.args.rest.now _ c.loop-at.at c.loop-at-test.true c.loop-at.invariant.told _ c.split_at.ensures.back (Some (c.in-Err-Some.place, c.in-Err-Some.kind)) c.in-None.ensures.value (c.in-Err-Some.ensures.value ∙ ap (λ (x : Stop). Err x) c.in-Err-Some.field-0-is))
    ∙ ap (λ (x : ℕ). Err (Some (x, c.in-Err-Some.kind))) (sym (add_twice c.args.len c.loop-at.at c.in-Err-Some.place)))

pub group_of-returns-clause-value : goal.group_of-returns-clause-value
group_of-returns-clause-value t c =
    sym (group_open c.args.level c.args.len c.args.number c.args.rest.now c.loop-at.invariant.some
    ∙ ap (onward c.args.len) (group_done (group_in (c.args.level - 1)) c.args.number c.args.rest.now _ c.loop-at.at c.loop-at-test.false c.loop-at.invariant.told))
