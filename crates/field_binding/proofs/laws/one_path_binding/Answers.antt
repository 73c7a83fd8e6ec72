use Rattle.field_binding.proofs.UniqueLemmas.{bound_in_one_way}
use Rattle.field_binding.proofs.laws.one_path_binding.Goals as goal

pub returns : goal.returns
returns c = bound_in_one_way c.one_reading_of_a_text.ensures
