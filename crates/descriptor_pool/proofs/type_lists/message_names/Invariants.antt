use Rattle.std.proofs.Common.{◌≡◌, ◌++◌, drop, map}
use Rattle.descriptor_pool.specs.DeclaredNames.{DeclaredMessage}
use Rattle.descriptor_pool.proofs.type_lists.message_names.Given as goal

abbrev pub invariant-loop-message : goal.invariant-loop-message
invariant-loop-message l = map (λ n. n.now) l.names.items ++ map (λ (m : DeclaredMessage). m.name) (drop l.message-index l.messages) ≡ map (λ (m : DeclaredMessage). m.name) l.messages
