use Rattle.leaf_texts.proofs.ValidLeaves.{leaf_valid}
use Rattle.leaf_texts.proofs.laws.leaves_are_valid.Goals as goal

pub returns : goal.returns
returns c = record {
  scalars = λ types scalar text i levels h. c.readings_are_scalars.ensures types scalar text i h;
  leaves = leaf_valid c.readings_are_scalars.ensures c.sound_types_have_known_fields.ensures c.known_values_are_valid.ensures;
}
