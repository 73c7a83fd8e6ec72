use Rattle.descriptor_pool.specs.DeclaredNames.{declarations}
use Rattle.descriptor_pool.specs.DeclaredTypes.{types_in}
use Rattle.descriptor_pool.specs.ReachableTypes.{reachable}
use Rattle.descriptor_pool.specs.SetMethods.{bound_methods}
use Rattle.schema_link.proofs.ApartNames.{names_of_set_apart}
use Rattle.schema_link.proofs.LawfulTypes.{lawful_linkable}
use Rattle.schema_link.proofs.SetLemmas.{api_linked, set_parts}
use Rattle.schema_link.proofs.laws.what_is_linked_of_a_set_is_linked.Goals as goal

pub returns : goal.returns
returns c = λ set api h.
    let ds = declarations set in
    let ms = bound_methods set in
    let types = types_in ds in
    let parts = set_parts set h.0 in
    let lawful = c.faultless_sets_are_lawful.ensures ds ms parts.0 in
    let linkable = lawful_linkable types (reachable types ms) lawful.messages in
    api_linked c.linked_rules_are_bindings.ensures c.routes_apart_repeat_none.ensures ds ms api lawful h.1 parts.1
    (c.what_is_linked_is_sound.ensures types ms api.types linkable h.1.types_are)
    (c.linked_names_are_apart.ensures types ms api.types (names_of_set_apart ds lawful.names) h.1.types_are)
    (c.reached_messages_are_linked.ensures types ms api.types h.1.types_are)
