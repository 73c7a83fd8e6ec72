use Rattle.std.proofs.Common.{arith}
use Rattle.std.proofs.lemmas.Result.{on_ok_weaker}
use Rattle.mask_texts.proofs.ShownMasks.{appended}
use Rattle.mask_texts.proofs.mask.put_paths.Goals as goal

pub returns-clause-ok : goal.returns-clause-ok
returns-clause-ok c =
    on_ok_weaker c.put_others.result
    (λ others. appended c.args.out.now.items c.put_path.new.out.items c.put_others.new.out.items c.path_of.result.now
    c.in-Some.first.now c.in-Some.others.now c.args.paths.now (grind arith) c.path_of.ensures
    c.in_ok-put_path.ensures.ok others)
    c.put_others.ensures.ok
