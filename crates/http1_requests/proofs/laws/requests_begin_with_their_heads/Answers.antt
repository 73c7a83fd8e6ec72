use Rattle.http1_requests.proofs.FirstRequestLemmas.{first_refused, first_with_cause, first_ranks, first_missing, first_without_head}
use Rattle.http1_requests.proofs.laws.requests_begin_with_their_heads.Goals as goal

pub returns-clause-refused : goal.returns-clause-refused
returns-clause-refused c = λ ended bytes r. (first_refused ended bytes r, first_with_cause ended bytes r)

pub returns-clause-ranks : goal.returns-clause-ranks
returns-clause-ranks c = first_ranks

pub returns-clause-none : goal.returns-clause-none
returns-clause-none c = λ ended bytes. (first_missing ended bytes, first_without_head ended bytes)
