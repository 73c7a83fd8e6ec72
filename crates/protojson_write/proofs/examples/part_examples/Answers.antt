use Rattle.protojson_write.proofs.OutputExampleFacts.{parts_hold}
use Rattle.protojson_write.proofs.examples.part_examples.Goals as goal

pub returns : goal.returns
returns c = parts_hold c.bytes_examples.ensures
