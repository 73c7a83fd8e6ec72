use Rattle.descriptor_pool.specs.DeclaredNames.{declarations}
use Rattle.descriptor_pool.specs.DeclaredTypes.{types_in}
use Rattle.descriptor_pool.specs.ReachableTypes.{reachable}
use Rattle.descriptor_pool.specs.SetMethods.{bound_methods}
use Rattle.schema_link.proofs.LawfulTypes.{lawful_linkable}
use Rattle.schema_link.proofs.SetLemmas.{set_parts}
use Rattle.schema_link.proofs.laws.faultless_sets_are_linkable.Goals as goal

pub returns : goal.returns
returns c = λ set h.
    lawful_linkable (types_in (declarations set)) (reachable (types_in (declarations set)) (bound_methods set))
    (c.faultless_sets_are_lawful.ensures (declarations set) (bound_methods set) (set_parts set h).0).messages
