use Rattle.std.proofs.Common.{IfSome, IsSome, refl, subst, sym}
use Rattle.linked_api.specs.NumberPaths.{IsLeafField}
use Rattle.linked_api.proofs.PathLemmas.{numbers_end}
use Rattle.linked_api.proofs.laws.numbers_end_at_a_leaf.Goals as goal

pub returns-clause-is : goal.returns-clause-is
returns-clause-is c types id numbers h =
    let end = numbers_end types id numbers h in subst (λ o. IfSome o (IsLeafField types)) (sym end.1) end.2

pub returns-clause-there : goal.returns-clause-there
returns-clause-there c types id numbers h =
    let end = numbers_end types id numbers h in subst IsSome (sym end.1) refl
