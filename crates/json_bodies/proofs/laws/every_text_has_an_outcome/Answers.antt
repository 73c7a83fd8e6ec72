use Rattle.json_bodies.proofs.BodyLemmas.{TextLaws}
use Rattle.json_bodies.proofs.EachBody.{each_outcome, fresh_tells}
use Rattle.json_bodies.proofs.laws.every_text_has_an_outcome.Goals as goal

pub returns : goal.returns
returns c =
    let texts : TextLaws = record {
      trees = c.texts_have_one_tree.ensures.tree;
      tokens = c.texts_have_one_tree.ensures.tokens;
      marks = c.texts_have_the_tokens_of_trees.ensures.tree;
      begins = c.texts_have_the_tokens_of_trees.ensures.begins;
      ended = c.fronts_have_one_list_of_tokens.ensures.tokens;
      fronts = c.fronts_have_one_list_of_tokens.ensures.fronts;
      longest = c.fronts_have_one_list_of_tokens.ensures.longest;
      some = c.bytes_have_one_list_of_tokens.ensures.some;
      one = c.bytes_have_one_list_of_tokens.ensures.one;
      first = c.bytes_have_one_list_of_tokens.ensures.first;
      front = c.bytes_have_one_list_of_tokens.ensures.front;
    } in
    λ d id n place bytes.
    each_outcome c.readings_hold.ensures d id n place texts bytes
    (fresh_tells c.new-reader.result bytes c.new-reader.ensures.fresh c.new-reader.ensures.stands)
