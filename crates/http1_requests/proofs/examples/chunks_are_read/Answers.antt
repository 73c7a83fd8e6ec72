use Rattle.std.proofs.Common.{refl}
use Rattle.http1_requests.proofs.OnExamples.{on_examples}
use Rattle.http1_requests.proofs.examples.chunks_are_read.Goals as goal

pub returns : goal.returns
unfolding on_examples
returns c = record {
  next = refl;
  part = refl;
  client_ends = refl;
  no_return_behind_data = refl;
  return_behind_data = refl;
  return_without_feed = refl;
  sixteen_digits = refl;
  largest_size = refl;
  seventeen_digits = refl;
  no_hexadecimal = refl;
  no_line_end = refl;
  feed_alone = refl;
  broken_second = refl;
}
