use Rattle.std.proofs.Common.{refl}
use Rattle.http1_requests.proofs.OnExamples.{on_examples}
use Rattle.http1_requests.proofs.examples.empty_lines_are_skipped.Goals as goal

pub returns : goal.returns
unfolding on_examples
returns c = record {
  before_first = refl;
  between = refl;
  behind_body = refl;
  alone = refl;
  feeds_alone = refl;
  return_alone = refl;
}
