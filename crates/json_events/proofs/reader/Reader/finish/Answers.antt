use Rattle.std.proofs.Common.{[], None, subst}
use Rattle.json_events.specs.ReaderState.{ReaderState}
use Rattle.json_events.specs.ReaderAnswers.{GoesOn}
use Rattle.json_events.specs.ProgressSeen.{reading_of}
use Rattle.json_events.proofs.reading.CallLemmas.{end_wrong}
use Rattle.json_events.proofs.reader.Reader.finish.Goals as goal

pub returns-in-Err-clause-stands : goal.returns-in-Err-clause-stands
returns-in-Err-clause-stands c =
    let f = c.in-Err.fault in
    let old : ReaderState = record { reading = reading_of c.self.inside.progress; fault = c.self.inside.fault } in
    let new : ReaderState = record { reading = reading_of c.end.new.self; fault = c.refuse.new.kept } in
    subst (λ (r : ReaderState). GoesOn r new [] None) c.self.view_is (end_wrong old new f c.in-None.is c.refuse.ensures.kept c.in-Err.ensures.fault)
