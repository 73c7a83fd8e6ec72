use Rattle.std.proofs.Common.{◌≡◌, ◌≢◌, ◌+◌, ◌∷◌, [], ◌++◌, ℕ, take, get_or, slice_get, Some, unwrap_or, subst, sym, ap, ◌∙◌, arith}
use Rattle.std.proofs.lemmas.List.{take_all, take_more}
use Rattle.std.proofs.lemmas.Option.{slice_get-get_or}
use Rattle.std.specs.Int.{bit_at}
use Rattle.path_router.proofs.BitLemmas.{AreBits, bits_at_first, bits_told, bits_with, bits_without, number_at}
use Rattle.path_router.proofs.CountLemmas.{methods_counted}
use Rattle.path_router.proofs.MethodLemmas.{methods_rise}
use Rattle.path_router.proofs.SearchLemmas.{below_length}
use Rattle.path_router.specs.BindingMethods.{methods_of}
use Rattle.path_router.proofs.search.methods_that_fit.Goals as goal
use Rattle.path_router.proofs.search.methods_that_fit.Goals.{then-fits, else-fits}

pub loop-i-init : goal.loop-i-init
loop-i-init c = bits_at_first (methods_of c.args.bindings.now) c.args.path.now

pub with_bit-requires : goal.with_bit-requires
with_bit-requires c =
    let i = c.loop-i.i in
    let bs = c.args.bindings.now in
    let b = c.index-bindings-i.result in
    let at : slice_get bs i ≡ Some b =
    slice_get-get_or bs i b c.loop-i-test.true ∙ ap Some (sym c.index-bindings-i.is) in
    let n = get_or c.args.numbers.now i 0 in
    let there =
    below_length (methods_of bs) n b.method
    (number_at (methods_of bs) c.args.numbers.now bs i b 0 c.requires.numbers at) in
    omega (arith, there, methods_counted bs, c.requires.routable.methods)

pub loop-i-preserved : goal.loop-i-preserved
loop-i-preserved c =
    let i = c.loop-i.i in
    let bs = c.args.bindings.now in
    let path = c.args.path.now in
    let methods = methods_of bs in
    let b = c.index-bindings-i.result in
    let n = get_or c.args.numbers.now i 0 in
    let more : take (i + 1) bs ≡ take i bs ++ b ∷ [] =
    take_more bs i b c.loop-i-test.true ∙ ap (λ z. take i bs ++ z ∷ []) (sym c.index-bindings-i.is) in
    let at : slice_get bs i ≡ Some b =
    slice_get-get_or bs i b c.loop-i-test.true ∙ ap Some (sym c.index-bindings-i.is) in
    let numbered = number_at methods c.args.numbers.now bs i b 0 c.requires.numbers at in
    elim c.if-fits.branch [
      | then-fits w ↦
          let others : (k : ℕ) → k ≢ n → bit_at w.with_bit.result k ≡ bit_at (unwrap_or c.loop-i.bits 0) k =
          λ k o. w.with_bit.ensures.others k o ∙ ap (λ z. bit_at z k) w.unwrap_or.ensures in
          subst (AreBits methods (take (i + 1) bs) path) (sym w.bits-is)
          (subst (λ z. AreBits methods z path (Some w.with_bit.result)) (sym more)
          (bits_with methods (take i bs) b path c.loop-i.bits n w.with_bit.result (methods_rise bs) c.loop-i.invariant
          (c.fits.ensures.0 w.if-fits.true) numbered w.with_bit.ensures.own others))
      | else-fits w ↦
          subst (AreBits methods (take (i + 1) bs) path) (sym w.bits-is)
          (subst (λ z. AreBits methods z path c.loop-i.bits) (sym more)
          (bits_without methods (take i bs) b path c.loop-i.bits c.loop-i.invariant
          (λ f. let yes = c.fits.ensures.1 f in absurd (cc (yes, w.if-fits.false)))))
    ]

pub returns : goal.returns
returns c =
    let bs = c.args.bindings.now in
    let all : take c.loop-i.i bs ≡ bs = take_all c.loop-i.i bs c.loop-i-test.false in
    bits_told bs c.args.path.now c.loop-i.bits
    (subst (λ z. AreBits (methods_of bs) z c.args.path.now c.loop-i.bits) all c.loop-i.invariant)
