use Rattle.std.proofs.Common.{◌≡◌, ◌+◌, ◌-◌, [], ◌∷◌, length, drop, refl, sym, ap, ◌∙◌, arith}
use Rattle.std.proofs.lemmas.Bool.{lt-ltb, ltb-true}
use Rattle.std.proofs.lemmas.List.{drop_more, drop_all, length-drop}
use Rattle.path_router.proofs.OrderLemmas.{alike_lists, end_decides, equal_front, none_before_end, other_front}
use Rattle.path_router.proofs.order.stand_before.Goals as goal

pub returns-in_default : goal.returns-in_default
returns-in_default c =
    let i = c.loop-i.i in
    let a = c.args.a.now in
    let b = c.args.b.now in (
      (λ t. absurd (cc (t))),
      (λ h. absurd
          (none_before_end (drop i a)
          (alike_lists (drop i a) (drop i b) (drop i a) [] refl (drop_all i b c.in_default.ensures.lookup.3)
          (c.loop-i.invariant.1 h)))),
    )

pub returns-then-not-is_same : goal.returns-then-not-is_same
returns-then-not-is_same c =
    let i = c.loop-i.i in
    let a = c.args.a.now in
    let b = c.args.b.now in
    let x = c.index-a-i.result in
    let y = c.in-Some.y.now in
    let own : drop i a ≡ x ∷ drop (i + 1) a =
    drop_more a i x c.loop-i-test.true ∙ ap (λ z. z ∷ drop (i + 1) a) (sym c.index-a-i.is) in
    let other : drop i b ≡ y ∷ drop (i + 1) b =
    drop_more b i y c.in-Some.ensures.lookup.3.0 ∙ ap (λ z. z ∷ drop (i + 1) b) (sym c.in-Some.ensures.lookup.1) in
    let decides =
    other_front x y (drop (i + 1) a) (drop (i + 1) b)
    (λ e. let same = c.is_same.ensures.1 e in absurd (cc (same, c.if-not-is_same.true))) in (
      (λ t.
          let less = ltb-true c.segment_rank.result c.segment_rank-then-not-is_same.result t in
          c.loop-i.invariant.0
          (alike_lists (x ∷ drop (i + 1) a) (y ∷ drop (i + 1) b) (drop i a) (drop i b) (sym own) (sym other)
          (decides.0 (omega (arith, less, c.segment_rank.ensures, c.segment_rank-then-not-is_same.ensures))))),
      (λ h.
          let less =
          decides.1
          (alike_lists (drop i a) (drop i b) (x ∷ drop (i + 1) a) (y ∷ drop (i + 1) b) own other
          (c.loop-i.invariant.1 h)) in
          lt-ltb c.segment_rank.result c.segment_rank-then-not-is_same.result
          (omega (arith, less, c.segment_rank.ensures, c.segment_rank-then-not-is_same.ensures))),
    )

pub loop-i-preserved : goal.loop-i-preserved
loop-i-preserved c =
    let i = c.loop-i.i in
    let a = c.args.a.now in
    let b = c.args.b.now in
    let x = c.index-a-i.result in
    let y = c.in-Some.y.now in
    let own : drop i a ≡ x ∷ drop (i + 1) a =
    drop_more a i x c.loop-i-test.true ∙ ap (λ z. z ∷ drop (i + 1) a) (sym c.index-a-i.is) in
    let other : drop i b ≡ y ∷ drop (i + 1) b =
    drop_more b i y c.in-Some.ensures.lookup.3.0 ∙ ap (λ z. z ∷ drop (i + 1) b) (sym c.in-Some.ensures.lookup.1) in
    let on = equal_front x y (drop (i + 1) a) (drop (i + 1) b) (c.is_same.ensures.0 c.if-not-is_same.false) in (
      (λ h. c.loop-i.invariant.0
          (alike_lists (x ∷ drop (i + 1) a) (y ∷ drop (i + 1) b) (drop i a) (drop i b) (sym own) (sym other) (on.0 h))),
      (λ h. on.1
          (alike_lists (drop i a) (drop i b) (x ∷ drop (i + 1) a) (y ∷ drop (i + 1) b) own other
          (c.loop-i.invariant.1 h))),
    )

pub returns : goal.returns
returns c =
    let i = c.loop-i.i in
    let a = c.args.a.now in
    let b = c.args.b.now in
    let none : drop i a ≡ [] = drop_all i a c.loop-i-test.false in
    let whole : i ≡ length a = omega (arith, c.loop-i-test.false, c.loop-i.auto.i-end) in
    let rest : length (drop i b) ≡ length b - i = length-drop i b in
    let ends = end_decides (drop i b) in (
      (λ t.
          let less = ltb-true (length a) (length b) t in
          c.loop-i.invariant.0
          (alike_lists [] (drop i b) (drop i a) (drop i b) (sym none) refl
          (ends.0 (omega (arith, less, whole, rest))))),
      (λ h.
          let more = ends.1 (alike_lists (drop i a) (drop i b) [] (drop i b) none refl (c.loop-i.invariant.1 h)) in
          lt-ltb (length a) (length b) (omega (arith, more, whole, rest))),
    )
