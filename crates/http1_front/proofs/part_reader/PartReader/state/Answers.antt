use Rattle.std.proofs.Common.{subst}
use Rattle.http1_front.specs.PartReading.{part_cut}
use Rattle.http1_front.specs.declared.part_reader.Progress.{Progress}
use Rattle.http1_front.proofs.ReadingLemmas.{CutIs, progress_cut}
use Rattle.http1_front.proofs.part_reader.PartReader.state.Goals as goal

pub returns-in-Open : goal.returns-in-Open
returns-in-Open c =
    let r = c.self.inside in
    let cut = progress_cut r.part r.progress r.lines r.bytes.items c.self.invariant.0 c.self.invariant.1 in
    rw (← c.self.view_is) (subst (λ (p : Progress). CutIs p r.bytes.items (part_cut r.part r.bytes.items)) c.in-Open.is cut)

pub returns-in-Whole : goal.returns-in-Whole
returns-in-Whole c =
    let r = c.self.inside in
    let cut = progress_cut r.part r.progress r.lines r.bytes.items c.self.invariant.0 c.self.invariant.1 in
    rw (← c.self.view_is) (subst (λ (p : Progress). CutIs p r.bytes.items (part_cut r.part r.bytes.items)) c.in-Whole.is cut)

pub returns-in-TooLarge : goal.returns-in-TooLarge
returns-in-TooLarge c =
    let r = c.self.inside in
    let cut = progress_cut r.part r.progress r.lines r.bytes.items c.self.invariant.0 c.self.invariant.1 in
    rw (← c.self.view_is) (subst (λ (p : Progress). CutIs p r.bytes.items (part_cut r.part r.bytes.items)) c.in-TooLarge.is cut)
