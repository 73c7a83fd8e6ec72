use Rattle.protojson_write.proofs.OutputExampleFacts.{scalars_hold}
use Rattle.protojson_write.proofs.examples.scalar_examples.Goals as goal

pub returns : goal.returns
returns c = scalars_hold
