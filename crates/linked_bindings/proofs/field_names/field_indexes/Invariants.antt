use Rattle.std.proofs.Common.{take}
use Rattle.linked_bindings.specs.FieldIndexes.{AreFieldIndexes}
use Rattle.linked_bindings.proofs.field_names.field_indexes.Given as goal

abbrev pub invariant-loop-message : goal.invariant-loop-message
invariant-loop-message l = AreFieldIndexes (take l.message-index l.messages) l.indexes.items
