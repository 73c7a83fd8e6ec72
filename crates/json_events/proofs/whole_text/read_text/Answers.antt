use Rattle.std.proofs.Common.{◌≡◌, ◌++◌, ◌+◌, ℕ, suc, List, [], take, drop, get_or, inl, sym, subst}
use Rattle.std.proofs.lemmas.Result.{err_from_is_err_and}
use Rattle.std.specs.List.{concat}
use Rattle.base.proofs.PiecewiseLemmas.{concat_at, concat_more}
use Rattle.json_events.specs.ReaderRuns.{HasTold, IsFirstFault}
use Rattle.json_events.proofs.reading.CallRuns.{told_at_start}
use Rattle.json_events.proofs.whole_text.read_text.Goals as goal

pub loop-piece-init : goal.loop-piece-init
loop-piece-init c =
    let e = c.new-reader.ensures in
    let all = concat c.args.pieces.now in
    record {
      told = subst (HasTold c.new-reader.result all []) (sym c.requires.empty) (told_at_start c.new-reader.result all e.fresh e.stands);
    }

pub returns-in_err-feed_all-clause-err : goal.returns-in_err-feed_all-clause-err
returns-in_err-feed_all-clause-err c =
    let back = err_from_is_err_and c.from_residual.result c.from_residual.ensures.1 in
    let i = c.loop-piece.piece-index in
    let ps = c.args.pieces.now in
    let p = c.as_slice.result.now in
    let e : p ≡ get_or ps i p = cc (c.as_slice.ensures, c.piece-item.is) in
    let before = concat (take i ps) in
    let behind = concat (drop (suc i) ps) in
    let all : before ++ (p ++ behind) ≡ concat ps = concat_at ps i p c.loop-piece-test.true e in
    let now = subst (λ (l : List ℕ). HasTold c.loop-piece.reader l before c.loop-piece.out) (sym all) c.loop-piece.invariant.told in
    rw (back.1, back.2) (inl (subst (λ (l : List ℕ). IsFirstFault c.in_err-feed_all.field-0.0 l c.feed_all.new.out) all
    (c.in_err-feed_all.ensures.err before behind now)))

pub loop-piece-preserved : goal.loop-piece-preserved
loop-piece-preserved c =
    let i = c.loop-piece.piece-index in
    let ps = c.args.pieces.now in
    let p = c.as_slice.result.now in
    let e : p ≡ get_or ps i p = cc (c.as_slice.ensures, c.piece-item.is) in
    let before = concat (take i ps) in
    let behind = concat (drop (suc i) ps) in
    let all : before ++ (p ++ behind) ≡ concat ps = concat_at ps i p c.loop-piece-test.true e in
    let m : concat (take (i + 1) ps) ≡ before ++ p = concat_more ps i p c.loop-piece-test.true e in
    let now = subst (λ (l : List ℕ). HasTold c.loop-piece.reader l before c.loop-piece.out) (sym all) c.loop-piece.invariant.told in
    let next = subst (λ (l : List ℕ). HasTold c.feed_all.new.reader l (before ++ p) c.feed_all.new.out) all (c.in_ok-feed_all.ensures.ok before behind now) in
    record {
      told = subst (λ (l : List ℕ). HasTold c.feed_all.new.reader (concat ps) l c.feed_all.new.out) (sym m) next;
    }
