use Rattle.protojson_write.proofs.OutputExampleFacts.{messages_hold}
use Rattle.protojson_write.proofs.examples.message_examples.Goals as goal

pub returns : goal.returns
returns c = messages_hold c.bytes_examples.ensures
