-- A refusal is that of the whole stream, and a message more is one of it.
use Rattle.std.proofs.Common.{◌++◌, ◌∙◌, ℕ, List, take, subst, append_assoc}
use Rattle.std.proofs.lemmas.Result.{err_from_is_err_and}
use Rattle.grpc_frames.specs.Deframer.{Stands}
use Rattle.grpc_frames.proofs.FeedLemmas.{refused_piece, piece_ends, piece_goes_on, piece_left}
use Rattle.grpc_frames.proofs.whole_stream.feed_all.Goals as goal

pub returns-in_err-fed-clause-err : goal.returns-in_err-fed-clause-err
returns-in_err-fed-clause-err c =
    let i = c.feeding.invariant in
    let e = c.in_err-fed.ensures in
    let p = err_from_is_err_and c.from_residual.result c.from_residual.ensures.1 in
    rw (p.1, p.2) (λ r more s.
    refused_piece c.args.deframer.now c.feed.new.self r i.taken c.feeding.rest.now c.args.piece.now more _ i.piece (e.limit ∙ i.limit) e.refused (e.stands (r ++ i.taken) (i.seen r s)))

pub returns-in-None-clause-ok : goal.returns-in-None-clause-ok
returns-in-None-clause-ok c = λ r s t.
    let i = c.feeding.invariant in
    let e = c.in_ok-fed.ensures in
    let a = i.stands r s t in
    piece_ends c.args.deframer.now c.feeding.deframer c.feed.new.self r i.taken c.feeding.rest.now c.args.piece.now c.feeding.out c.in_ok-fed.fed i.piece i.limit c.in-None.is
    (e.stands (r ++ i.taken) a.0) (e.answers (r ++ i.taken) a.0) a.1

pub feeding-preserved : goal.feeding-preserved
feeding-preserved c =
    let i = c.feeding.invariant in
    let e = c.in_ok-fed.ensures in
    let rest = c.feeding.rest.now in
    let n = c.in_ok-fed.fed.taken in
    let more = rw c.in-Some.is at c.in_ok-push-in-Some.ensures.ok in
    record {
      limit = e.limit ∙ i.limit;
      taken = i.taken ++ take n rest;
      piece = piece_left i.taken c.feeding.rest.now c.args.piece.now n i.piece;
      stands = λ r s t.
          let a = i.stands r s t in
          piece_goes_on c.args.deframer.now c.feeding.deframer c.feed.new.self r i.taken c.feeding.rest.now c.feeding.out c.push.new.self c.in_ok-fed.fed c.in-Some.message i.limit c.in-Some.is more
          (e.stands (r ++ i.taken) a.0) (e.answers (r ++ i.taken) a.0) a.1;
      seen = λ r s. subst (λ (xs : List ℕ). Stands c.feed.new.self xs) (append_assoc r i.taken (take n rest)) (e.stands (r ++ i.taken) (i.seen r s));
    }
