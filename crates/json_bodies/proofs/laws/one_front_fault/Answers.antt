use Rattle.json_bodies.proofs.FrontLemmas.{front_is_whole}
use Rattle.json_bodies.proofs.laws.one_front_fault.Goals as goal

pub returns : goal.returns
returns c d id n place bytes f g a b =
    (c.one_outcome_of_a_text.ensures d id n place bytes).fault f g (front_is_whole d id n place bytes f a)
    (front_is_whole d id n place bytes g b)
