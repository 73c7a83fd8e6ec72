use Rattle.linked_types.proofs.ReachedIds.{ids_in}
use Rattle.linked_types.proofs.laws.reached_messages_are_linked.Goals as goal

pub returns : goal.returns
returns c = λ types ms t h. ids_in types ms t h (c.what_is_reached_is_closed.ensures types ms)
