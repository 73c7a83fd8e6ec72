use Rattle.wire_records.proofs.ReaderLemmas.{tells_first}
use Rattle.wire_records.proofs.records.Records.next.Goals as goal

pub returns : goal.returns
returns c = tells_first c.args.self.now c.step.new.self c.step.result c.step.ensures
