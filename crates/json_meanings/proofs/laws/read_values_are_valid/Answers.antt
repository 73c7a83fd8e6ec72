use Rattle.json_meanings.proofs.TreeValidLemmas.{denoted_is_valid}
use Rattle.json_meanings.proofs.Utf8Lemmas.{text_utf8, tokens_utf8}
use Rattle.json_meanings.proofs.laws.read_values_are_valid.Goals as goal

pub returns : goal.returns
returns c = record {
  values = λ k id n j v sound valid utf8 e.
      denoted_is_valid c.numbers_are_read_exactly.ensures.texts c.numbers_are_read_exactly.ensures.ranges k sound valid id n j v utf8 e;
  strings = text_utf8 c.texts_mean_one_value.ensures.utf8;
  tokens = tokens_utf8;
}
