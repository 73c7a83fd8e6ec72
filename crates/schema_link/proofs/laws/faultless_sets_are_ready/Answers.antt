use Rattle.descriptor_pool.specs.DeclaredTypes.{types_in}
use Rattle.schema_link.proofs.ReadySets.{methods_none, set_ready}
use Rattle.schema_link.proofs.laws.faultless_sets_are_ready.Goals as goal

pub returns : goal.returns
returns c = λ ds ms h.
    let lawful = c.faultless_sets_are_lawful.ensures ds ms h in
    set_ready c.linkable_types_are_linked.ensures c.reached_messages_are_linked.ensures ds ms lawful
    (c.faultless_rules_have_templates.ensures.all (types_in ds) ms (methods_none ds ms h))
