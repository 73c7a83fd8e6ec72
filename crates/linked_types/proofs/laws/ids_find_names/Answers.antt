use Rattle.linked_types.proofs.NamedTypes.{names_found}
use Rattle.linked_types.proofs.laws.ids_find_names.Goals as goal

pub returns : goal.returns
returns c = names_found
