use Rattle.json_bodies.proofs.BodyLemmas.{TextLaws, one_outcome}
use Rattle.json_bodies.proofs.laws.one_outcome_of_a_text.Goals as goal

pub returns : goal.returns
returns c =
    let texts : TextLaws = record {
      trees = c.texts_have_one_tree.ensures.tree;
      tokens = c.texts_have_one_tree.ensures.tokens;
      marks = c.texts_have_the_tokens_of_trees.ensures.tree;
      begins = c.texts_have_the_tokens_of_trees.ensures.begins;
      ended = c.fronts_have_one_list_of_tokens.ensures.tokens;
      fronts = c.fronts_have_one_list_of_tokens.ensures.fronts;
      longest = c.fronts_have_one_list_of_tokens.ensures.longest;
      some = c.bytes_have_one_list_of_tokens.ensures.some;
      one = c.bytes_have_one_list_of_tokens.ensures.one;
      first = c.bytes_have_one_list_of_tokens.ensures.first;
      front = c.bytes_have_one_list_of_tokens.ensures.front;
    } in
    λ d id n place bytes. one_outcome c.readings_hold.ensures d id n place texts bytes
