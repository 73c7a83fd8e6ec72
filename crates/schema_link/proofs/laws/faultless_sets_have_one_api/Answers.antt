use Rattle.descriptor_pool.specs.DeclaredNames.{declarations}
use Rattle.descriptor_pool.specs.DeclaredTypes.{types_in}
use Rattle.descriptor_pool.specs.SetMethods.{bound_methods}
use Rattle.schema_link.proofs.SetLemmas.{api_there, one_api, set_parts}
use Rattle.schema_link.proofs.laws.faultless_sets_have_one_api.Goals as goal

pub returns-clause-there : goal.returns-clause-there
returns-clause-there c = λ set h.
    let ds = declarations set in
    let ms = bound_methods set in
    let parts = set_parts set h in
    api_there c.faultless_rules_are_linked.ensures.linked ds ms (c.faultless_sets_are_lawful.ensures ds ms parts.0)
    (c.faultless_sets_are_ready.ensures ds ms parts.0) parts.1

pub returns-clause-one : goal.returns-clause-one
returns-clause-one c = λ set a b. one_api (types_in (declarations set)) (bound_methods set) a b
