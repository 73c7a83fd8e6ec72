use denote.Ref.{Bor}
use Rattle.std.proofs.Common.{◌≡◌, ℕ, List, length, ap, sym, ◌∙◌}
use Rattle.std.proofs.lemmas.List.{length-map}
use Rattle.path_router.proofs.CountLemmas.{methods_counted}
use Rattle.path_router.proofs.PlaceLemmas.{texts_of}
use Rattle.path_router.specs.BindingMethods.{methods_of}
use Rattle.path_router.proofs.methods.method_count.Goals as goal

pub returns : goal.returns
returns c =
    let slice = c.as_slice.result.now in
    let texts : texts_of slice ≡ methods_of c.args.bindings.now =
    ap texts_of c.as_slice.ensures.value ∙ c.in_ok-methods.ensures in
    sym (length-map slice (λ (m : Bor (List ℕ)). m.now)) ∙ ap length texts ∙ methods_counted c.args.bindings.now
