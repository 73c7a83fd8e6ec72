use Rattle.std.proofs.Common.{ap, refl, ◌∙◌}
use Rattle.std.proofs.lemmas.Result.{on_ok_weaker}
use Rattle.descriptor_pool.specs.DeclaredNames.{in_scope}
use Rattle.descriptor_pool.proofs.DeclaredLemmas.{put_is}
use Rattle.descriptor_pool.proofs.declared_names.+put.Goals as goal

pub put_message-returns : goal.put_message-returns
put_message-returns t c =
    let syntax = c.args.file.now.syntax in
    let m = c.args.message.now in
    let scope = c.args.scope.now in
    let inner = c.in_ok-inner.ensures ∙ ap (in_scope scope) c.as_str.ensures.value in
    on_ok_weaker c.put_extensions.result
    (λ last. put_is syntax m scope c.in_ok-inner.inner.now _ c.as_slice.result.now c.as_slice-2.result.now c.as_slice-3.result.now
    c.args.out.now.items c.push.new.self.items c.put_messages.new.out.items c.put_enums.new.out.items c.put_extensions.new.out.items
    inner c.as_slice.ensures c.as_slice-2.ensures c.as_slice-3.ensures refl
    c.in_ok-push.ensures.items c.in_ok-put_messages.ensures c.in_ok-put_enums.ensures last)
    c.put_extensions.ensures
