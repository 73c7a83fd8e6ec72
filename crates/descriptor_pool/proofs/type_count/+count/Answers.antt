use Rattle.std.proofs.Common.{◌≡◌, ◌-◌, count_by, subst, arith}
use Rattle.descriptors.specs.declared.file_set.MessageInfo.{out-MessageInfo}
use Rattle.descriptor_pool.specs.DeclaredNames.{in_scope, is_type, messages_in}
use Rattle.descriptor_pool.proofs.TypeCountLemmas.{message_types_len}
use Rattle.descriptor_pool.proofs.type_count.+count.Goals as goal

pub less_message-returns : goal.less_message-returns
less_message-returns t c = λ syntax scope.
    let inner = in_scope scope (out-MessageInfo c.args.message.now).name in
    let nested = subst (λ ms. c.less_messages.result ≡ c.saturating_sub-rest.result - count_by is_type (messages_in syntax inner ms))
    c.as_slice.ensures (c.less_messages.ensures syntax inner) in
    omega (arith, message_types_len syntax c.args.message.now scope, c.saturating_sub.ensures, nested, c.len.ensures, c.saturating_sub-rest.ensures)
