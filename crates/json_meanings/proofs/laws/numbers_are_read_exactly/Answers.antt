use Rattle.json_meanings.proofs.NumberLemmas.{number_laws, range_laws}
use Rattle.json_meanings.proofs.laws.numbers_are_read_exactly.Goals as goal

pub returns : goal.returns
returns c = record {
  texts = λ s text number. number_laws c.integers_are_computed.ensures.integers s text number;
  ranges = range_laws;
}
