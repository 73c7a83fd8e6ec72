use Rattle.std.proofs.Common.{◌≡◌, ◌+◌, ◌<◌, [], drop, take, length, get_or, ap, ◌∙◌, sym, subst, arith}
use Rattle.path_router.proofs.PieceLemmas.{piece_at, end_more}
use Rattle.path_router.specs.PathSegments.{BeginsWith}
use Rattle.http_rules.specs.TemplateMatch.{slashed}
use Rattle.path_router.proofs.pieces.offset_behind.Goals as goal

pub loop-preserved : goal.loop-preserved
loop-preserved c = record {
  within = c.piece_end-at.ensures.within;
  there = λ pieces a w h.
      let i = c.loop.counter in
      let at : c.loop.at ≡ length (slashed (take i pieces)) = c.loop.invariant.there pieces a w h in
      let less : i < length pieces = omega (arith, h, c.loop-test.true) in
      let here =
      subst (λ z. BeginsWith (drop z c.args.path.now) (get_or pieces i []) (slashed (drop (i + 1) pieces))) (sym at)
      (piece_at i pieces c.args.path.now a w less) in
      c.piece_end-at.ensures.ends (get_or pieces i []) (slashed (drop (i + 1) pieces)) here
      ∙ ap (λ z. z + 1 + length (get_or pieces i [])) at ∙ sym (end_more i pieces less);
}

pub returns-clause-there : goal.returns-clause-there
returns-clause-there c pieces a w h =
    let same : c.loop.counter ≡ c.args.count = omega (arith, c.loop-test.false, c.loop.auto.counter-end) in
    c.loop.invariant.there pieces a w h ∙ ap (λ z. length (slashed (take z pieces))) same
