use Rattle.std.proofs.Common.{[], take, None, subst}
use Rattle.std.proofs.lemmas.Result.{IfOk-weaker, IfErr-weaker}
use Rattle.json_events.specs.ReaderAnswers.{StandsOn}
use Rattle.json_events.specs.ProgressSeen.{reading_of}
use Rattle.json_events.proofs.reading.StandLemmas.{fault_then}
use Rattle.json_events.proofs.reading.ReadLemmas.{reads_again, quiet_reads}
use Rattle.json_events.proofs.progress.Progress.run.Goals as goal

pub returns-then-taken-eq0-clause-reads : goal.returns-then-taken-eq0-clause-reads
returns-then-taken-eq0-clause-reads c =
    let old = reading_of c.args.self.now in
    let now = reading_of c.pass.new.self in
    let first : StandsOn old now [] None = subst (λ n. StandsOn old now (take n c.args.bytes.now) None) c.if-taken-eq0.true c.in-Ok.ensures.stands in
    IfOk-weaker c.step.result _ _ (λ fed h. reads_again old now (reading_of c.step.new.self) c.args.bytes.now fed.taken fed.token first h) c.step.ensures.reads

pub returns-then-taken-eq0-clause-fault : goal.returns-then-taken-eq0-clause-fault
returns-then-taken-eq0-clause-fault c =
    let old = reading_of c.args.self.now in
    let now = reading_of c.pass.new.self in
    let first : StandsOn old now [] None = subst (λ n. StandsOn old now (take n c.args.bytes.now) None) c.if-taken-eq0.true c.in-Ok.ensures.stands in
    IfErr-weaker c.step.result _ _ (λ f h. fault_then f old now [] c.args.bytes.now first h) c.step.ensures.fault

pub returns-else-taken-eq0-clause-reads : goal.returns-else-taken-eq0-clause-reads
returns-else-taken-eq0-clause-reads c =
    quiet_reads (reading_of c.args.self.now) (reading_of c.pass.new.self) c.args.bytes.now c.in-Ok.taken c.in-Ok.ensures.stands
