use Rattle.std.proofs.Common.{refl}
use Rattle.http1_requests.proofs.OnExamples.{on_examples}
use Rattle.http1_requests.proofs.examples.limits_are_kept.Goals as goal

pub returns : goal.returns
unfolding on_examples
returns c = record { largest = refl; too_large = refl; no_end = refl; one_less = refl; fields_before_end = refl }
