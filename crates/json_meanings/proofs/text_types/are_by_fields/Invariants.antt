use Rattle.std.proofs.Common.{◌↔◌, drop}
use Rattle.std.specs.List.{AllByRecursion}
use Rattle.message_types.specs.declared.messages.MessageType.{MessageType}
use Rattle.json_meanings.specs.TextTypes.{IsByFields}
use Rattle.json_meanings.proofs.text_types.are_by_fields.Given as goal

abbrev pub invariant-loop-message : goal.invariant-loop-message
invariant-loop-message l =
    AllByRecursion (λ (m : MessageType). IsByFields m.known) (drop l.message-index l.message-items)
    ↔ AllByRecursion (λ (m : MessageType). IsByFields m.known) l.message-items
