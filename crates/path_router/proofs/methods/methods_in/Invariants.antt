use Rattle.std.proofs.Common.{◌≡◌, map, take}
use Rattle.path_router.specs.BindingMethods.{methods_of}
use Rattle.path_router.proofs.methods.methods_in.Given as goal

abbrev pub invariant-loop-binding : goal.invariant-loop-binding
invariant-loop-binding l = map (λ m. m.now) l.methods.items ≡ methods_of (take l.binding-index l.bindings)
