use Rattle.descriptor_pool.specs.DeclaredNames.{declarations}
use Rattle.descriptor_pool.specs.DeclaredTypes.{types_in}
use Rattle.descriptor_pool.specs.ReachableTypes.{reachable}
use Rattle.descriptor_pool.specs.SetMethods.{bound_methods}
use Rattle.schema_link.specs.SetApi.{linked_method}
use Rattle.schema_link.proofs.GivenItems.{length_given}
use Rattle.schema_link.proofs.LinkedSets.{method_found}
use Rattle.schema_link.proofs.laws.ids_find_names.Goals as goal

pub returns : goal.returns
returns c = λ set api is.
    let types = types_in (declarations set) in
    let ms = bound_methods set in
    let js = reachable types ms in
    let names = c.ids_find_names.ensures types js api.types is.types_are in
    record {
      types = names;
      method_count = length_given (linked_method types js) ms api.methods is.methods_are;
      methods = method_found types js api ms names is.methods_are;
    }
