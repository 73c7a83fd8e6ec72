use Rattle.std.proofs.Common.{refl}
use Rattle.http1_requests.proofs.OnExamples.{on_examples}
use Rattle.http1_requests.proofs.examples.trailers_are_read.Goals as goal

pub returns : goal.returns
unfolding on_examples
returns c = record {
  none = refl;
  feed_alone = refl;
  part = refl;
  fields = refl;
  no_field = refl;
  most = refl;
  more = refl;
}
