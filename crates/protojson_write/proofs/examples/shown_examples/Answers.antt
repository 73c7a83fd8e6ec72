use Rattle.protojson_write.proofs.ShownExampleFacts.{shown_fields_hold, shown_messages_hold}
use Rattle.protojson_write.proofs.examples.shown_examples.Goals as goal

pub returns : goal.returns
returns c = record { messages = shown_messages_hold; fields = shown_fields_hold c.bytes_examples.ensures c.bytes_meanings.ensures }
