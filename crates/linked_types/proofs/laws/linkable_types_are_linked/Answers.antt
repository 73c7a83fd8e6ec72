use Rattle.linked_types.proofs.LinkableLinked.{types_some}
use Rattle.linked_types.proofs.laws.linkable_types_are_linked.Goals as goal

pub returns : goal.returns
returns c = λ types ms h. types_some types ms (c.what_is_reached_is_closed.ensures types ms) h
