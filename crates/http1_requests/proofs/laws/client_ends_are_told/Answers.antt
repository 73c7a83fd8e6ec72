use Rattle.http1_requests.proofs.ClientEndLemmas.{client_requests_at_end, stops, one_stop, told_at_stop}
use Rattle.http1_requests.proofs.laws.client_ends_are_told.Goals as goal

pub returns-clause-all : goal.returns-clause-all
returns-clause-all c = client_requests_at_end

pub returns-clause-some : goal.returns-clause-some
returns-clause-some c = stops

pub returns-clause-one : goal.returns-clause-one
returns-clause-one c = one_stop

pub returns-clause-told : goal.returns-clause-told
returns-clause-told c = told_at_stop
