use Rattle.std.proofs.Common.{sym, subst}
use Rattle.json_events.specs.ReaderAnswers.{mark_seen}
use Rattle.protojson_read.specs.BuilderReads.{IsBehind, IsTokenFault}
use Rattle.json_meanings.specs.KnownReadings.{schema_of}
use Rattle.protojson_read.specs.declared.builder.State.{State}
use Rattle.protojson_read.specs.declared.fault.FieldFault.{FieldFault}
use Rattle.protojson_read.proofs.BuilderLemmas.{not_taken, not_taken_behind}
use Rattle.protojson_read.proofs.builder.next_state.Goals as goal

pub returns-in-Open-clause-err : goal.returns-in-Open-clause-err
returns-in-Open-clause-err c id n ts behind begins =
    subst (λ (f : FieldFault). IsTokenFault f c.args.place (schema_of c.args.types.now) id n ts (mark_seen c.args.token))
    (sym c.fault_at.ensures)
    (not_taken c.readings_hold.ensures c.args.part (schema_of c.args.types.now) id n ts (mark_seen c.args.token)
    c.in-Open.levels c.args.place c.in-Err.refusal (c.in-Err.ensures _ c.step.ensures)
    (subst (λ (s : State). IsBehind c.args.part s (schema_of c.args.types.now) id n ts) c.in-Open.is behind) begins)

pub returns-in-Ended-clause-err : goal.returns-in-Ended-clause-err
returns-in-Ended-clause-err c id n ts behind begins =
    not_taken_behind c.readings_hold.ensures c.args.part (schema_of c.args.types.now) id n ts (mark_seen c.args.token)
    c.in-Ended.field-0 c.args.place
    (subst (λ (s : State). IsBehind c.args.part s (schema_of c.args.types.now) id n ts) c.in-Ended.is behind) begins
