use Rattle.std.proofs.Common.{◌≡◌, ◌+◌, ◌∷◌, [], ◌++◌, ℕ, map, take, slice_get, Some, sym, subst, ap, ◌∙◌}
use Rattle.std.proofs.lemmas.List.{map-append, map_more}
use Rattle.std.proofs.lemmas.Option.{slice_get-get_or}
use Rattle.http_rules.specs.declared.template.Binding.{Binding}
use Rattle.path_router.proofs.MethodLemmas.{method_there, methods_rise}
use Rattle.path_router.specs.BindingMethods.{AreRising, methods_of}
use Rattle.path_router.proofs.methods.numbers_in.Goals as goal

pub place_of-requires : goal.place_of-requires
place_of-requires c = subst AreRising (sym c.requires.methods) (methods_rise c.args.bindings.now)

pub unreachable-requires : goal.unreachable-requires
unreachable-requires c =
    let i = c.loop-binding.binding-index in
    let bs = c.args.bindings.now in
    let b = c.binding-item.result in
    let at : slice_get bs i ≡ Some b =
    slice_get-get_or bs i b c.loop-binding-test.true ∙ ap Some (sym c.binding-item.is) in
    let has = method_there bs i b at in
    c.in-Err.ensures.absent has.0
    (ap (λ z. slice_get z has.0) c.requires.methods ∙ has.1 ∙ ap Some (sym c.as_str.ensures.value))

pub loop-binding-preserved : goal.loop-binding-preserved
loop-binding-preserved c =
    let i = c.loop-binding.binding-index in
    let bs = c.args.bindings.now in
    let b = c.binding-item.result in
    let methods = methods_of bs in
    let own = λ (n : ℕ). slice_get methods n in
    let n = c.in-Ok.number in
    let number : slice_get methods n ≡ Some b.method =
    ap (λ z. slice_get z n) (sym c.requires.methods) ∙ c.in-Ok.ensures.found ∙ ap Some c.as_str.ensures.value in
    let more : map (λ (z : Binding). Some z.method) (take (i + 1) bs) ≡ map (λ (z : Binding). Some z.method)
    (take i bs) ++ Some b.method ∷ [] =
    map_more (λ (z : Binding). Some z.method) bs i b c.loop-binding-test.true
    ∙ ap (λ (z : Binding). map (λ (z : Binding). Some z.method) (take i bs) ++ Some z.method ∷ [])
    (sym c.binding-item.is) in
    let ok : c.push.new.self ≡ c.loop-binding.numbers ++ n ∷ [] = c.in_ok-push-in-Ok.ensures.ok in
    ap (map own) ok ∙ map-append own c.loop-binding.numbers (n ∷ [])
    ∙ ap (λ z. z ++ own n ∷ []) c.loop-binding.invariant
    ∙ ap (λ z. map (λ (z : Binding). Some z.method) (take i bs) ++ z ∷ []) number ∙ sym more
