use Rattle.std.proofs.Common.{refl}
use Rattle.http1_requests.proofs.OnExamples.{on_examples}
use Rattle.http1_requests.proofs.examples.lengths_are_read.Goals as goal

pub returns : goal.returns
unfolding on_examples
returns c = record {
  no_body = refl;
  longest = refl;
  leading_zeros = refl;
  chunked = refl;
  too_many_digits = refl;
  no_digit = refl;
  sign = refl;
  list = refl;
  same_twice = refl;
  both = refl;
  two_codings = refl;
  coding_twice = refl;
}
