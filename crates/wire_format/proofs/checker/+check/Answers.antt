use Rattle.std.proofs.Common.{◌≡◌, ◌+◌, ◌-◌, ◌∙◌, ap, sym, arith, subst, ℕ, List, Option, Some, Err}
use Rattle.std.proofs.lemmas.Result.{err_from_is_err_and}
use Rattle.message_types.specs.Types.{field_in}
use Rattle.message_types.specs.declared.fields.Field.{Field}
use Rattle.message_types.specs.declared.messages.Types.{Types}
use Rattle.wire_format.specs.Checks.{Finds}
use Rattle.wire_records.specs.RecordViews.{raw_of}
use Rattle.wire_format.specs.WireFaults.{as_wire, Fault, Wire, field_fault, first_fault}
use Rattle.wire_records.specs.RecordFaults.{records_fault}
use Rattle.wire_records.specs.WireRecord.{Record}
use Rattle.wire_format.proofs.decoding.FaultLemmas.{records_go_on, records_stop_at, records_found, fault_none, fault_open}
use Rattle.wire_format.proofs.checker.+check.Goals as goal

-- the check of each record of a message
abbrev checking : ℕ → Types → List Field → ℕ → Record → Option Fault
checking k types fields = λ at r. field_fault (first_fault k types) types k (field_in fields r.number) at r

pub check_message-returns-then-within-eq0 : goal.check_message-returns-then-within-eq0
check_message-returns-then-within-eq0 t c = fault_none c.args.within.level c.args.within.types.now c.args.fields.now c.args.place c.args.bytes.now c.if-within-eq0.true

pub check_message-loop-at-init : goal.check_message-loop-at-init
check_message-loop-at-init t c = record {
  some = c.if-within-eq0.false;
  within = omega arith;
  told = let e : c.args.place + 0 ≡ c.args.place = omega arith in
      ap (λ (p : ℕ). records_fault as_wire (checking (c.args.within.level - 1) c.args.within.types.now c.args.fields.now) (c.args.within.level - 1) p 0 c.args.bytes.now) e
      ∙ sym (fault_open c.args.within.level c.args.within.types.now c.args.fields.now c.args.place c.args.bytes.now c.if-within-eq0.false);
}

pub check_message-returns-in-Err : goal.check_message-returns-in-Err
check_message-returns-in-Err t c =
    let e : c.args.place + c.loop-at.at + c.in-Err.near ≡ c.args.place + (c.loop-at.at + c.in-Err.near) = omega arith in
    subst (Finds (Err c.fault_at.result))
    (sym (records_stop_at c.args.bytes.now c.loop-at.at c.loop-at-test.true _ c.split_at.ensures.back (checking (c.args.within.level - 1) c.args.within.types.now c.args.fields.now) (c.args.within.level - 1) c.args.place _ c.loop-at.invariant.told
    c.in-Err.near c.in-Err.kind c.in-Err.ensures.value
    ∙ ap (λ (p : ℕ). Some (Wire p c.in-Err.kind)) e))
    c.fault_at.ensures

pub check_message-returns-in_err-check_record-in-Ok : goal.check_message-returns-in_err-check_record-in-Ok
check_message-returns-in_err-check_record-in-Ok t c =
    let p = err_from_is_err_and c.from_residual.result c.from_residual.ensures.1 in
    rw (p.1, p.2) (records_found c.args.bytes.now c.loop-at.at c.loop-at-test.true _ c.split_at.ensures.back (checking (c.args.within.level - 1) c.args.within.types.now c.args.fields.now) (c.args.within.level - 1) c.args.place _ c.loop-at.invariant.told
    (raw_of c.in-Ok.found) _ c.in-Ok.ensures.within.0 c.in-Ok.ensures.value c.in_err-check_record-in-Ok.ensures)

pub check_message-loop-at-preserved : goal.check_message-loop-at-preserved
check_message-loop-at-preserved t c = record {
  some = c.loop-at.invariant.some;
  within = omega (arith, c.in-Ok.ensures.within, c.split_at.ensures.back_len);
  told = records_go_on c.args.bytes.now c.loop-at.at c.loop-at-test.true _ c.split_at.ensures.back (checking (c.args.within.level - 1) c.args.within.types.now c.args.fields.now) (c.args.within.level - 1) c.args.place _ c.loop-at.invariant.told
      (raw_of c.in-Ok.found) c.in-Ok.ensures.within.0 c.in-Ok.ensures.value c.in_ok-check_record-in-Ok.ensures;
}
