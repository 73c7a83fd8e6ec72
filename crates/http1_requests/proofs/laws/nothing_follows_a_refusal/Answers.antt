use Rattle.http1_requests.proofs.RequestLemmas.{client_requests_final}
use Rattle.http1_requests.proofs.laws.nothing_follows_a_refusal.Goals as goal

pub returns : goal.returns
returns c = client_requests_final
