use Rattle.http1_requests.proofs.RequestLemmas.{client_requests_step}
use Rattle.http1_requests.proofs.laws.requests_follow_one_another.Goals as goal

pub returns : goal.returns
returns c = λ bytes ended. client_requests_step ended bytes
