use Rattle.http1_requests.proofs.RequestLemmas.{client_requests_grow, first_request_grows}
use Rattle.http1_requests.proofs.laws.requests_stay.Goals as goal

pub returns-clause-all : goal.returns-clause-all
returns-clause-all c = client_requests_grow

pub returns-clause-first : goal.returns-clause-first
returns-clause-first c = λ bytes more ended. first_request_grows ended bytes more
