use Rattle.std.proofs.Common.{◌++◌, take}
use Rattle.std.proofs.lemmas.Result.{err_from_is_err_and}
use Rattle.json_events.proofs.reading.PieceLemmas.{piece_goes_on, piece_ends, piece_refused, piece_left}
use Rattle.json_events.proofs.whole_text.feed_all.Goals as goal

pub returns-in_err-fed-clause-err : goal.returns-in_err-fed-clause-err
returns-in_err-fed-clause-err c =
    let i = c.feeding.invariant in
    let p = err_from_is_err_and c.from_residual.result c.from_residual.ensures.1 in
    rw (p.1, p.2) (λ before behind h.
    piece_refused c.feeding.reader before i.taken c.feeding.rest.now c.args.piece.now behind c.feeding.out _ i.piece
    (i.told before behind h) c.in_err-fed.ensures.fault)

pub returns-in-None-clause-ok : goal.returns-in-None-clause-ok
returns-in-None-clause-ok c = λ before behind h.
    let i = c.feeding.invariant in
    let e = c.in_ok-fed.ensures in
    piece_ends c.feeding.reader c.feed.new.self before i.taken c.feeding.rest.now c.args.piece.now behind c.feeding.out
    c.in_ok-fed.fed i.piece c.in-None.is (e.all c.in-None.is) (i.told before behind h) e.stands e.accepted

pub feeding-preserved : goal.feeding-preserved
feeding-preserved c =
    let i = c.feeding.invariant in
    let e = c.in_ok-fed.ensures in
    let rest = c.feeding.rest.now in
    let n = c.in_ok-fed.fed.taken in
    let more = rw c.in-Some.is at c.in_ok-push-in-Some.ensures.ok in
    record {
      taken = i.taken ++ take n rest;
      piece = piece_left i.taken rest c.args.piece.now n i.piece;
      told = λ before behind h.
          piece_goes_on c.feeding.reader c.feed.new.self before i.taken rest c.args.piece.now behind c.feeding.out
          c.push.new.self c.in_ok-fed.fed c.in-Some.token i.piece c.in-Some.is more (i.told before behind h) e.stands e.accepted;
    }
