use Rattle.std.proofs.Common.{subst}
use Rattle.http1_requests.specs.HeadJudgement.{Judgement}
use Rattle.http1_requests.proofs.BoundLemmas.{served_bounds}
use Rattle.http1_requests.proofs.CauseLemmas.{Describes, describes, judgement_served}
use Rattle.http1_requests.proofs.laws.served_heads_are_read.Goals as goal

pub returns-clause-served : goal.returns-clause-served
returns-clause-served c = λ bytes head.
    ((λ e. subst (λ (j : Judgement). Describes bytes j) e (describes bytes)), judgement_served bytes head)

pub returns-clause-bounds : goal.returns-clause-bounds
returns-clause-bounds c = served_bounds
