use Rattle.known_types.proofs.BytesExampleFacts.{examples_hold}
use Rattle.known_types.proofs.examples.bytes_examples.Goals as goal

pub returns : goal.returns
returns c = examples_hold
