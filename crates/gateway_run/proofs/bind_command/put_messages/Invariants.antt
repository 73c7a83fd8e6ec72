use Rattle.std.proofs.Common.{◌≡◌, ◌≤◌, ◌++◌, drop, length}
use Rattle.std.specs.List.{AllByRecursion, flat_map}
use Rattle.gateway_run.specs.CommandOutput.{message_line}
use Rattle.gateway_run.proofs.bind_command.put_messages.Given as goal

abbrev pub invariant-loop-message : goal.invariant-loop-message
invariant-loop-message l = record {
  each : AllByRecursion (λ m. length m ≤ 1048576) (drop l.message-index l.messages);
  told : l.out.items ++ flat_map message_line (drop l.message-index l.messages) ≡ l.initial.out.items ++ flat_map message_line l.messages;
}
