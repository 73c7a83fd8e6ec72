use Rattle.std.proofs.Common.{subst}
use Rattle.http1_requests.specs.HeadJudgement.{Judgement}
use Rattle.http1_requests.proofs.CauseLemmas.{Describes, describes, judgement_refused, refusal_ranks}
use Rattle.http1_requests.proofs.laws.heads_are_refused_in_order.Goals as goal

pub returns-clause-causes : goal.returns-clause-causes
returns-clause-causes c = λ bytes r.
    ((λ e. subst (λ (j : Judgement). Describes bytes j) e (describes bytes)), judgement_refused bytes r)

pub returns-clause-ranks : goal.returns-clause-ranks
returns-clause-ranks c = refusal_ranks
