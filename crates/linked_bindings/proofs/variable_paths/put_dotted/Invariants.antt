use Rattle.std.proofs.Common.{◌≡◌, ◌++◌, ◌∷◌, drop}
use Rattle.std.specs.List.{flat_map}
use Rattle.std.specs.String.{string_bytes}
use Rattle.linked_bindings.proofs.variable_paths.put_dotted.Given as goal

abbrev pub invariant-loop-name : goal.invariant-loop-name
invariant-loop-name l =
    string_bytes l.out ++ flat_map (λ y. 46 ∷ y) (drop l.name-index l.names)
    ≡ string_bytes l.initial.out ++ flat_map (λ y. 46 ∷ y) l.names
