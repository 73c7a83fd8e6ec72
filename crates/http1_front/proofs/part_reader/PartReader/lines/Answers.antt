use Rattle.http1_front.proofs.ReadingLemmas.{reading_lines}
use Rattle.http1_front.proofs.part_reader.PartReader.lines.Goals as goal

pub returns : goal.returns
returns c =
    let r = c.self.inside in
    rw (← c.self.view_is) (reading_lines r.part r.progress r.lines r.bytes.items c.self.invariant.0 c.self.invariant.1)
