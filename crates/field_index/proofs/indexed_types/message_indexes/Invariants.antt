use Rattle.std.proofs.Common.{◌≡◌, ◌++◌, drop, map}
use Rattle.message_types.specs.declared.messages.MessageType.{MessageType}
use Rattle.field_index.proofs.indexed_types.message_indexes.Given as goal

abbrev pub invariant-loop-message : goal.invariant-loop-message
invariant-loop-message l =
    l.indexes.items ++ map (λ (m : MessageType). m.fields) (drop l.message-index l.messages)
    ≡ map (λ (m : MessageType). m.fields) l.messages
