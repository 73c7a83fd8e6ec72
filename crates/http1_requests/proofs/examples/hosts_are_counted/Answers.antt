use Rattle.std.proofs.Common.{refl}
use Rattle.http1_requests.proofs.OnExamples.{on_examples}
use Rattle.http1_requests.proofs.examples.hosts_are_counted.Goals as goal

pub returns : goal.returns
unfolding on_examples
returns c = record { empty_host = refl; no_host = refl; two_hosts = refl; two_hosts_and_bad_length = refl }
