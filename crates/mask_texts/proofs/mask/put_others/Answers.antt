use Rattle.std.proofs.Common.{[], ◌∷◌}
use Rattle.base.proofs.ExtendsLemmas.{extends_more, on_any}
use Rattle.mask_texts.proofs.mask.put_others.Goals as goal

pub returns-in_err-put_path-clause-err : goal.returns-in_err-put_path-clause-err
returns-in_err-put_path-clause-err c =
    on_any c.from_residual-in_err-put_path.result
    (extends_more c.args.out.now.items c.push.new.self.items c.put_path.new.out.items
    (extends_more c.args.out.now.items c.loop-item.out.items c.push.new.self.items c.loop-item.invariant.grown
    (44 ∷ [], c.in_ok-push.ensures.items)) c.in_err-put_path.ensures.err)
