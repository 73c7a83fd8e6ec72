use Rattle.std.proofs.Common.{refl}
use Rattle.http1_requests.proofs.OnExamples.{on_examples}
use Rattle.http1_requests.proofs.examples.fields_are_counted.Goals as goal

pub returns : goal.returns
unfolding on_examples
returns c = record {
  most = refl;
  more = refl;
  before_method = refl;
  before_lengths = refl;
  before_grammar = refl;
}
