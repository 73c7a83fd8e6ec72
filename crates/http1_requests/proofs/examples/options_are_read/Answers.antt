use Rattle.std.proofs.Common.{refl}
use Rattle.http1_requests.proofs.OnExamples.{on_examples}
use Rattle.http1_requests.proofs.examples.options_are_read.Goals as goal

pub returns : goal.returns
unfolding on_examples
returns c = record {
  close_in_second = refl;
  close_in_list = refl;
  no_close = refl;
  expect_in_second = refl;
  no_expect = refl;
}
