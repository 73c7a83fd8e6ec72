use Rattle.std.proofs.Common.{refl}
use Rattle.http1_requests.proofs.OnExamples.{on_examples}
use Rattle.http1_requests.proofs.examples.counted_bodies_are_read.Goals as goal

pub returns : goal.returns
unfolding on_examples
returns c = record {
  next = refl;
  part = refl;
  client_ends = refl;
  end_between = refl;
  end_in_head = refl;
  length_zero = refl;
  refused_second = refl;
}
