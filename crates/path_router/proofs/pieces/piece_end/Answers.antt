use Rattle.std.proofs.Common.{◌+◌, drop, length, ap, subst}
use Rattle.path_router.proofs.PieceLemmas.{one_front}
use Rattle.path_router.specs.PathSegments.{BeginsWith}
use Rattle.path_router.proofs.pieces.piece_end.Goals as goal

pub returns-in-Some-clause-ends : goal.returns-in-Some-clause-ends
returns-in-Some-clause-ends c piece more b =
    let own =
    subst (λ z. BeginsWith z c.in-Some.piece.now c.in-Some.field-0-1.now) c.split_at.ensures.back
    c.in-Some.ensures in
    ap (λ z. c.args.at + 1 + length z)
    (one_front (drop c.args.at c.args.path.now) c.in-Some.piece.now piece c.in-Some.field-0-1.now more own b).0
