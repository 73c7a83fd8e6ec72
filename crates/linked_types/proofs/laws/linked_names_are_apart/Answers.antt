use Rattle.linked_types.proofs.ApartNames.{names_apart}
use Rattle.linked_types.proofs.laws.linked_names_are_apart.Goals as goal

pub returns : goal.returns
returns c = λ types ms t a h. names_apart types ms t (c.what_is_reached_is_closed.ensures types ms) a h
