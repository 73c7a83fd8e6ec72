use Rattle.std.proofs.Common.{subst, sym}
use Rattle.path_router.proofs.PieceLemmas.{one_front}
use Rattle.path_router.specs.PathSegments.{TakesOne}
use Rattle.path_router.proofs.pieces.behind_front.Goals as goal

pub returns-else-takes_one : goal.returns-else-takes_one
returns-else-takes_one c more t =
    let same = (one_front c.args.path.now c.in-Some.piece.now t.0 c.in-Some.more.now more c.in-Some.ensures t.1).0 in
    let takes = c.takes_one.ensures.1 (subst (TakesOne c.args.segment.now) (sym same) t.2) in
    absurd (cc (takes, c.if-takes_one.false))
