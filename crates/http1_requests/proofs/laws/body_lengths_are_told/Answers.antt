use Rattle.std.proofs.Common.{codes, subst}
use Rattle.http1.specs.Fields.{values_named}
use Rattle.http1_requests.specs.HeadJudgement.{Judgement}
use Rattle.http1_requests.proofs.BoundLemmas.{served_bounds}
use Rattle.http1_requests.proofs.BodyLengthLaw.{told_by, read_by, one_body, no_body, body_missing}
use Rattle.http1_requests.proofs.CauseLemmas.{Describes, describes}
use Rattle.http1_requests.proofs.laws.body_lengths_are_told.Goals as goal

pub returns-clause-told : goal.returns-clause-told
returns-clause-told c = λ fields body. (
  told_by (values_named (codes "content-length") fields) (values_named (codes "transfer-encoding") fields) body,
  read_by (values_named (codes "content-length") fields) (values_named (codes "transfer-encoding") fields) body,
)

pub returns-clause-one : goal.returns-clause-one
returns-clause-one c = one_body

pub returns-clause-none : goal.returns-clause-none
returns-clause-none c = λ fields. (no_body fields, body_missing fields)

pub returns-clause-served : goal.returns-clause-served
returns-clause-served c = λ bytes head e.
    let served = subst (λ (j : Judgement). Describes bytes j) e (describes bytes) in
    told_by (values_named (codes "content-length") head.fields) (values_named (codes "transfer-encoding") head.fields)
    head.body (served_bounds bytes head served).body
