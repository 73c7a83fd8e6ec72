use Rattle.std.proofs.Common.{◌≡◌, ◌-◌, count_by, subst, arith}
use Rattle.descriptor_pool.specs.DeclaredNames.{is_type, messages_in}
use Rattle.descriptor_pool.proofs.TypeCountLemmas.{file_types_len}
use Rattle.descriptor_pool.proofs.type_count.less_file.Goals as goal

pub returns : goal.returns
returns c =
    let file = c.args.file.now in
    let messages = subst (λ ms. c.less_messages.result ≡ c.args.left - count_by is_type (messages_in file.syntax file.«package» ms))
    c.as_slice.ensures (c.less_messages.ensures file.syntax file.«package») in
    omega (arith, file_types_len file, messages, c.len.ensures, c.saturating_sub.ensures)
