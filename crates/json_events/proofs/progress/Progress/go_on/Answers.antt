use Rattle.json_events.proofs.reading.HeldSizes.{kept_next}
use Rattle.json_events.proofs.progress.Progress.go_on.Goals as goal

pub put-requires-clause-kept : goal.put-requires-clause-kept
put-requires-clause-kept c =
    let w = c.args.word in
    let r = c.args.self.now in
    kept_next w.state c.args.next c.args.b r.held.items _ w.from r.at _ c.requires.open c.requires.kept c.requires.next c.in-Ok.ensures c.saturating_add-self.ensures
