use Rattle.std.proofs.Common.{◌≡◌, ◌-◌, ℕ, List, count_by, drop}
use Rattle.descriptor_pool.specs.DeclaredNames.{is_type, messages_in}
use Rattle.descriptor_pool.proofs.type_count.+count.Given as goal

abbrev pub invariant-less_messages-loop-message : goal.invariant-less_messages-loop-message
invariant-less_messages-loop-message l = (syntax scope : List ℕ) → l.rest - count_by is_type (messages_in syntax scope (drop l.message-index l.messages)) ≡ l.left - count_by is_type (messages_in syntax scope l.messages)
