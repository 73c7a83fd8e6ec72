use Rattle.json_bodies.proofs.FrontLemmas.{fault_or_none_shown}
use Rattle.json_bodies.proofs.laws.fronts_are_decided.Goals as goal

pub returns : goal.returns
returns c d id n place bytes =
    fault_or_none_shown c.readings_hold.ensures d id n place c.texts_have_the_tokens_of_trees.ensures.begins
    c.fronts_have_one_list_of_tokens.ensures.fronts bytes (c.sound_fronts_show_no_fault.ensures d id n place bytes)
    (c.fronts_have_one_list_of_tokens.ensures.longest bytes) c.bytes_have_one_list_of_tokens.ensures.some
