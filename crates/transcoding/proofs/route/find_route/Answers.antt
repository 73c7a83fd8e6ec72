use Rattle.std.proofs.Common.{subst}
use Rattle.path_router.specs.RouteChoice.{IsNotFound}
use Rattle.transcoding.proofs.CallLemmas.{unserved}
use Rattle.transcoding.proofs.route.find_route.Goals as goal

pub returns-in_default-clause-err : goal.returns-in_default-clause-err
returns-in_default-clause-err c = record {
  served = unserved c.args.method.now c.is_method_not_served.result c.is_method_not_served.ensures c.if-is_method_not_served.false;
  unknown = λ path p. absurd (c.in_default.ensures path p);
}

pub returns-in-NotFound-clause-err : goal.returns-in-NotFound-clause-err
returns-in-NotFound-clause-err c = record {
  served = unserved c.args.method.now c.is_method_not_served.result c.is_method_not_served.ensures c.if-is_method_not_served.false;
  unknown =
      λ path p.
      subst (IsNotFound c.args.api.now.bindings)
      (c.one_path_of_a_target.ensures c.args.target.now c.in-Some.path.now path c.in-Some.ensures p) c.in-NotFound.ensures.choice;
}
