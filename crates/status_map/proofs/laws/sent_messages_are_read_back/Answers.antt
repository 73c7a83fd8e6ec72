use Rattle.status_map.proofs.EscapeLemmas.{decoded_message_encoded}
use Rattle.status_map.proofs.laws.sent_messages_are_read_back.Goals as goal

pub returns : goal.returns
returns c = decoded_message_encoded
