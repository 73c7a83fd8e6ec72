use Rattle.std.proofs.Common.{take}
use Rattle.path_router.specs.BindingMethods.{methods_of}
use Rattle.path_router.proofs.BitLemmas.{AreBits}
use Rattle.path_router.proofs.search.methods_that_fit.Given as goal

abbrev pub invariant-loop-i : goal.invariant-loop-i
invariant-loop-i l = AreBits (methods_of l.bindings) (take l.i l.bindings) l.path l.bits
