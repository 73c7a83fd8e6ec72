use Rattle.json_bodies.proofs.FrontLemmas.{shows_none}
use Rattle.json_bodies.proofs.laws.sound_fronts_show_no_fault.Goals as goal

pub returns : goal.returns
returns c d id n place bytes ts are none =
    shows_none c.readings_hold.ensures d id n place c.texts_have_the_tokens_of_trees.ensures.begins
    c.fronts_have_one_list_of_tokens.ensures.fronts bytes c.bytes_have_one_list_of_tokens.ensures.first ts are none
