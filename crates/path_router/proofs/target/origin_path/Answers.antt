use Rattle.std.proofs.Common.{subst, sym}
use Rattle.path_router.proofs.TargetLemmas.{origin_of}
use Rattle.path_router.specs.TargetPath.{IsOriginForm}
use Rattle.path_router.proofs.target.origin_path.Goals as goal

pub returns-then-is_rooted : goal.returns-then-is_rooted
returns-then-is_rooted c =
    subst (IsOriginForm c.args.text.now) (sym c.split_at.ensures.front)
    (origin_of c.args.text.now c.path_len.result (c.is_rooted.ensures.0 c.if-is_rooted.true) c.path_len.ensures.free
    c.path_len.ensures.query)
