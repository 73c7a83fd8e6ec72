-- What linking rests on once a set has no fault of what it declares.
use Rattle.std.specs.Prelude.{◌≡◌, ◌<◌, ◌^◌, List, length, map, IsSome, Some}
use Rattle.std.specs.List.{AllByRecursion}
use Rattle.descriptor_pool.specs.DeclaredTypes.{SetTypes}
use Rattle.descriptor_pool.specs.ReachableTypes.{reachable}
use Rattle.descriptor_pool.specs.SetMethods.{BoundMethod, all_rules}
use Rattle.linked_types.specs.LinkedTypes.{linked_types}
use Rattle.schema_link.specs.SetApi.{linked_method}
use Rattle.set_faults.specs.MethodFaults.{rule_template, templates_of}

-- no look-up fails: the types and each method are linked, each rule has a template, and 32 bits number all of them
pub record IsReady (types : SetTypes) (ms : List BoundMethod) : Type 0 where
  pub few_messages : length (reachable types ms) < 2 ^ 32
  pub few_enums : length types.enums < 2 ^ 32
  pub few_methods : length ms < 2 ^ 32
  pub types_linked : IsSome (linked_types types (reachable types ms))
  pub methods_linked : AllByRecursion (λ m. IsSome (linked_method types (reachable types ms) m)) ms
  pub templates : map (λ t. Some t) (templates_of (all_rules ms)) ≡ map rule_template (all_rules ms)
