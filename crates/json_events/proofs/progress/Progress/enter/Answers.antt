use Rattle.std.proofs.Common.{sym, ap, ◌∙◌, subst}
use Rattle.json_events.specs.WordSteps.{begin, first_held}
use Rattle.json_events.specs.ProgressSeen.{reading_of, IsMarkFault}
use Rattle.json_events.proofs.reading.PutLemmas.{entry_fault}
use Rattle.json_events.proofs.progress.Progress.enter.Goals as goal

pub returns-in-Err-clause-err : goal.returns-in-Err-clause-err
returns-in-Err-clause-err c =
    let r = reading_of c.args.self.now in
    let l = c.in-Some.l in
    let f = c.in-Err.fault in
    let begun = ap (λ k. begin k c.args.b) (sym c.wants_key-is_key.ensures) ∙ sym c.in-Some.ensures in
    entry_fault f r c.args.b (record { state = l; is_key = c.wants_key-is_key.result; held = first_held l c.args.b }) begun (subst (λ k. IsMarkFault f r.at r.place k) c.kind.ensures c.in-Err.ensures.err)
