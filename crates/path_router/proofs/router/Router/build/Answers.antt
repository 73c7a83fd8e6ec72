use denote.Ref.{Bor}
use Rattle.std.proofs.Common.{◌≡◌, ◌≤◌, ℕ, List, length, ap, sym, subst, ◌∙◌}
use Rattle.std.proofs.lemmas.List.{length-map}
use Rattle.path_router.proofs.CountLemmas.{methods_counted}
use Rattle.path_router.proofs.PlaceLemmas.{texts_of}
use Rattle.path_router.specs.BindingMethods.{methods_of}
use Rattle.path_router.proofs.router.Router.build.Goals as goal

pub numbers_in-requires-clause-few : goal.numbers_in-requires-clause-few
numbers_in-requires-clause-few c =
    let slice = c.as_slice.result.now in
    let texts : texts_of slice ≡ methods_of c.args.bindings.now =
    ap texts_of c.as_slice.ensures.value ∙ c.in_ok-methods.ensures ∙ ap methods_of c.as_slice-bindings.ensures in
    let count =
    sym (length-map slice (λ (m : Bor (List ℕ)). m.now)) ∙ ap length texts ∙ methods_counted c.args.bindings.now in
    subst (λ n. n ≤ 64) (sym count) c.requires.methods
