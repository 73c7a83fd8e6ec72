use Rattle.std.proofs.Common.{◌≡◌, ◌++◌, drop}
use Rattle.descriptor_pool.specs.DeclaredNames.{messages_in}
use Rattle.descriptor_pool.proofs.declared_names.+put.Given as goal

abbrev pub invariant-put_messages-loop-message : goal.invariant-put_messages-loop-message
invariant-put_messages-loop-message l = l.out.items ++ messages_in l.file.syntax l.scope (drop l.message-index l.messages) ≡ l.initial.out.items ++ messages_in l.file.syntax l.scope l.messages
