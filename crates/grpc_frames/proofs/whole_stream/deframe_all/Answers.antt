use Rattle.std.proofs.Common.{◌≡◌, ◌++◌, ◌+◌, ◌∙◌, sym, ap, ℕ, suc, List, take, drop, get_or, subst}
use Rattle.std.proofs.lemmas.Result.{err_from_is_err_and}
use Rattle.std.specs.List.{concat}
use Rattle.grpc_frames.specs.FeedAnswers.{IsEndFault}
use Rattle.base.proofs.PiecewiseLemmas.{concat_at, concat_more}
use Rattle.grpc_frames.specs.Deframer.{Stands}
use Rattle.grpc_frames.specs.LengthPrefixed.{deframed_of, deframed_within}
use Rattle.grpc_frames.proofs.whole_stream.deframe_all.Goals as goal

pub loop-piece-init : goal.loop-piece-init
unfolding deframed_of deframed_within
loop-piece-init c = record { limit = c.new-deframer.ensures.limit; stands = c.new-deframer.ensures.stands; told = sym c.new-out.ensures }

pub returns-in_err-feed_all-clause-fault : goal.returns-in_err-feed_all-clause-fault
returns-in_err-feed_all-clause-fault c =
    let back = err_from_is_err_and c.from_residual.result c.from_residual.ensures.1 in
    let i = c.loop-piece.piece-index in
    let ps = c.args.pieces.now in
    let p = c.as_slice.result.now in
    let e : p ≡ get_or ps i p = cc (c.as_slice.ensures, c.piece-item.is) in
    rw (back.1, back.2) (subst (λ (xs : List ℕ). IsEndFault c.args.limit xs c.in_err-feed_all.field-0.0) (concat_at ps i p c.loop-piece-test.true e)
    (subst (λ (k : ℕ). IsEndFault k (concat (take i ps) ++ (p ++ concat (drop (suc i) ps))) c.in_err-feed_all.field-0.0) c.loop-piece.invariant.limit
    (c.in_err-feed_all.ensures.err (concat (take i ps)) (concat (drop (suc i) ps)) c.loop-piece.invariant.stands)))

pub loop-piece-preserved : goal.loop-piece-preserved
loop-piece-preserved c =
    let i = c.loop-piece.piece-index in
    let ps = c.args.pieces.now in
    let p = c.as_slice.result.now in
    let v = c.loop-piece.invariant in
    let e : p ≡ get_or ps i p = cc (c.as_slice.ensures, c.piece-item.is) in
    let m : concat (take (i + 1) ps) ≡ concat (take i ps) ++ p = concat_more ps i p c.loop-piece-test.true e in
    let now = λ (xs : List ℕ) (k : ℕ). (deframed_of k xs).messages in
    let s = c.in_ok-feed_all.ensures.ok (concat (take i ps)) v.stands (ap (now (concat (take i ps))) v.limit ∙ v.told) in
    record {
      limit = c.in_ok-feed_all.ensures.limit ∙ v.limit;
      stands = subst (λ (xs : List ℕ). Stands c.feed_all.new.deframer xs) (sym m) s.0;
      told = ap (λ (xs : List ℕ). (deframed_of c.args.limit xs).messages) m ∙ sym (ap (now (concat (take i ps) ++ p)) v.limit) ∙ s.1;
    }
