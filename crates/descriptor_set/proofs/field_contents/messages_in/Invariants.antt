use Rattle.std.proofs.Common.{◌≡◌, ◌++◌, drop, map, Bor}
use Rattle.descriptor_set.specs.FieldContents.{messages_in}
use Rattle.schema.specs.declared.value.Value.{Value}
use Rattle.descriptor_set.proofs.field_contents.messages_in.Given as goal

abbrev pub invariant-loop-item : goal.invariant-loop-item
invariant-loop-item l = map (λ (v : Bor Value). v.now) l.found.items ++ messages_in (drop l.item-index l.items) ≡ messages_in l.items
