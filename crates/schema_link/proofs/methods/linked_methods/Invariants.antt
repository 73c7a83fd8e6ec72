use Rattle.std.proofs.Common.{◌≡◌, ◌++◌, Some, drop, map}
use Rattle.schema_link.specs.SetApi.{linked_method}
use Rattle.schema_link.proofs.methods.linked_methods.Given as goal

abbrev pub invariant-loop-method : goal.invariant-loop-method
invariant-loop-method l = map (λ m. Some m) l.linked
    ++ map (linked_method l.types l.ids) (drop l.method-index l.methods) ≡ map (linked_method l.types l.ids) l.methods
