use Rattle.std.proofs.Common.{◌≡◌, ◌+◌, ◌∷◌, [], ◌++◌, insert, take, sym, subst, ap, ◌∙◌}
use Rattle.std.proofs.lemmas.List.{take_more}
use Rattle.path_router.proofs.MethodLemmas.{found_there, methods_more, methods_rise}
use Rattle.path_router.proofs.PlaceLemmas.{texts_of, texts_inserted}
use Rattle.path_router.specs.BindingMethods.{AreRising, methods_of, with_method}
use Rattle.path_router.proofs.methods.methods_in.Goals as goal
use Rattle.path_router.proofs.methods.methods_in.Goals.{in-Err+in_ok-insert, in_default}

pub place_of-requires : goal.place_of-requires
place_of-requires c =
    subst AreRising (sym (ap texts_of c.as_slice.ensures.value ∙ c.loop-binding.invariant))
    (methods_rise (take c.loop-binding.binding-index c.args.bindings.now))

pub loop-binding-preserved : goal.loop-binding-preserved
loop-binding-preserved c =
    let i = c.loop-binding.binding-index in
    let bs = c.args.bindings.now in
    let b = c.binding-item.result in
    let s = c.as_str-method.result in
    let items = c.loop-binding.methods.items in
    let slice = c.as_slice.result.now in
    let before = take i bs in
    let more : take (i + 1) bs ≡ before ++ b ∷ [] =
    take_more bs i b c.loop-binding-test.true ∙ ap (λ z. before ++ z ∷ []) (sym c.binding-item.is) in
    let next : methods_of (take (i + 1) bs) ≡ with_method (methods_of before) b.method =
    ap methods_of more ∙ methods_more before b in
    let same : texts_of slice ≡ methods_of before = ap texts_of c.as_slice.ensures.value ∙ c.loop-binding.invariant in
    let on : with_method (texts_of slice) s.now ≡ methods_of (take (i + 1) bs) =
    ap (λ z. with_method z s.now) same ∙ ap (with_method (methods_of before)) c.as_str-method.ensures.value
    ∙ sym next in
    elim c.match-place_of.branch [
      | in-Err+in_ok-insert w ↦
          let p = w.in-Err.place in
          let put : texts_of w.insert.new.self.items ≡ insert (texts_of items) p s.now =
          ap texts_of w.in_ok-insert.ensures.items ∙ texts_inserted items p s in
          let own : insert (texts_of items) p s.now ≡ insert (texts_of slice) p s.now =
          ap (λ z. insert (texts_of z) p s.now) (sym c.as_slice.ensures.value) in
          rw w.methods-is (put ∙ own ∙ sym w.in-Err.ensures.put.1 ∙ on)
      | in_default w ↦
          let rising = subst AreRising (sym same) (methods_rise before) in
          rw w.methods-is
          (ap texts_of (sym c.as_slice.ensures.value)
          ∙ sym (found_there (texts_of slice) s.now w.in_default.field-0 rising w.in_default.ensures.found) ∙ on)
    ]
