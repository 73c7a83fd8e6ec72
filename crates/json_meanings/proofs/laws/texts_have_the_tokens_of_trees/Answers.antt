use Rattle.std.proofs.Common.{◌∙◌, sym}
use Rattle.json_events.specs.JsonText.{marks_of}
use Rattle.json_meanings.proofs.TokenLemmas.{marks_then}
use Rattle.json_meanings.proofs.laws.texts_have_the_tokens_of_trees.Goals as goal

pub returns : goal.returns
returns c = record {
  tree = c.texts_have_one_tree.ensures.marks;
  begins = λ bytes ts h. (h.2, marks_of h.1, sym (c.texts_have_one_tree.ensures.marks _ _ _ h.3) ∙ marks_then ts h.1);
}
