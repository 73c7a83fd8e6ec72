use Rattle.std.proofs.Common.{rules, ◌≡◌, ◌++◌, ◌<◌, ◌≤◌, ◌+◌, ℕ, List, length, take, sym, refl, subst, arith, slice_index}
use Rattle.std.proofs.lemmas.List.{take_all}
use Rattle.http1_front.specs.PlaceSteps.{line_step}
use Rattle.http1_front.specs.PartScan.{IsScanned, IsWhole}
use Rattle.http1_front.proofs.ScanLemmas.{scanned_more, scanned_whole, seen_more, line_step_small}
use Rattle.http1_front.proofs.scan.find_end.Goals as goal

pub loop-i-preserved : goal.loop-i-preserved
loop-i-preserved c =
    let bytes = c.args.bytes.now in
    let i = c.loop-i.i in
    let inside : i < length bytes = omega (arith, c.loop-i-test.true) in
    let byte = slice_index bytes i in
    rw c.line_step-ended.ensures (
      omega (arith, c.loop-i.invariant.0, line_step_small c.loop-i.place byte),
      λ part seen s.
          subst (λ (t : List ℕ). IsScanned part t c.in-Some.next (c.loop-i.ended + line_step c.loop-i.place byte)) (sym (seen_more seen bytes i inside))
          (scanned_more part (seen ++ take i bytes) c.loop-i.place c.in-Some.next byte c.loop-i.ended
          (c.loop-i.invariant.1 part seen s) c.in-Some.ensures),
    )

pub returns-in-None-clause-found : goal.returns-in-None-clause-found
returns-in-None-clause-found c =
    let bytes = c.args.bytes.now in
    let i = c.loop-i.i in
    let inside : i < length bytes = omega (arith, c.loop-i-test.true) in
    λ part seen s.
    rw c.line_step-ended.ensures
    (subst (λ (t : List ℕ). IsWhole part t (c.loop-i.ended + line_step c.loop-i.place (slice_index bytes i))) (sym (seen_more seen bytes i inside))
    (scanned_whole part (seen ++ take i bytes) c.loop-i.place (slice_index bytes i) c.loop-i.ended
    (c.loop-i.invariant.1 part seen s) c.in-None.ensures))

pub returns-clause-found : goal.returns-clause-found
returns-clause-found c =
    let bytes = c.args.bytes.now in
    let past : length bytes ≤ c.loop-i.i = search rules in
    let all : take c.loop-i.i bytes ≡ bytes = take_all c.loop-i.i bytes past in
    λ part seen s. (
      refl,
      subst (λ (t : List ℕ). IsScanned part (seen ++ t) c.loop-i.place c.loop-i.ended) all
          (c.loop-i.invariant.1 part seen s),
    )
