use Rattle.std.proofs.Common.{◌≡◌, ◌++◌, length, option_map}
use Rattle.linked_api.specs.FieldPaths.{path_numbers}
use Rattle.linked_bindings.proofs.field_paths.path_numbers.Given as goal

abbrev pub invariant-loop-name : goal.invariant-loop-name
invariant-loop-name l =
    option_map (λ ns. l.numbers ++ ns) (path_numbers l.names l.from l.left) ≡ path_numbers l.names l.fn.id l.path

abbrev pub decreases-loop-name : goal.decreases-loop-name
decreases-loop-name l = length l.left
