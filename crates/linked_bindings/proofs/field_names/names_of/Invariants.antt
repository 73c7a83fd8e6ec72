use Rattle.std.proofs.Common.{◌≡◌, ◌++◌, drop, map}
use Rattle.message_types.specs.declared.fields.Field.{Field}
use Rattle.linked_bindings.proofs.field_names.names_of.Given as goal

abbrev pub invariant-loop-field : goal.invariant-loop-field
invariant-loop-field l =
    map (λ n. n.now) l.names.items ++ map (λ (f : Field). f.name) (drop l.field-index l.fields)
    ≡ map (λ (f : Field). f.name) l.fields
