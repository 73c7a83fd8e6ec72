use Rattle.status_map.proofs.EscapeLemmas.{encoded_message_shown}
use Rattle.status_map.proofs.laws.sent_messages_are_visible_characters.Goals as goal

pub returns : goal.returns
returns c = encoded_message_shown
