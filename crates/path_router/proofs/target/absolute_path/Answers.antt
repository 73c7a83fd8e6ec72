use Rattle.path_router.proofs.TargetLemmas.{root_behind}
use Rattle.path_router.proofs.target.absolute_path.Goals as goal

pub returns-in-None : goal.returns-in-None
returns-in-None c =
    root_behind c.args.behind.now c.split_at.result.1.now c.authority_len.result c.split_at.ensures.back
    c.authority_len.ensures.inside c.authority_len.ensures.end c.in-None.ensures
