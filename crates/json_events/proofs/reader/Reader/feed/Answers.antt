use Rattle.std.proofs.Common.{refl, sym, ap, ◌∙◌}
use Rattle.json_events.specs.ReaderState.{ReaderState}
use Rattle.json_events.proofs.reading.CallLemmas.{stays_wrong, feeds_none}
use Rattle.json_events.proofs.reader.Reader.feed.Goals as goal

pub returns-in-Some-clause-stands : goal.returns-in-Some-clause-stands
returns-in-Some-clause-stands c =
    let kept = ap (λ (k : ReaderState). k.fault) (sym c.self.view_is) ∙ c.in-Some.is in
    feeds_none c.args.self.now c.args.self.now c.args.bytes.now c.in-Some.fault (stays_wrong c.args.self.now c.args.self.now c.args.bytes.now c.in-Some.fault kept refl)
