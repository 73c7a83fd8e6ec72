use Rattle.std.proofs.Common.{◌≡◌, map, take, slice_get, Some}
use Rattle.path_router.specs.BindingMethods.{methods_of}
use Rattle.http_rules.specs.declared.template.Binding.{Binding}
use Rattle.path_router.proofs.methods.numbers_in.Given as goal

abbrev pub invariant-loop-binding : goal.invariant-loop-binding
invariant-loop-binding l =
    map (λ n. slice_get (methods_of l.bindings) n) l.numbers ≡ map (λ (b : Binding). Some b.method)
    (take l.binding-index l.bindings)
