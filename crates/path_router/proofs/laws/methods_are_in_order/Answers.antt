use Rattle.path_router.proofs.CountLemmas.{methods_counted}
use Rattle.path_router.proofs.MethodLemmas.{methods_exact, methods_rise, rise_at}
use Rattle.path_router.specs.BindingMethods.{methods_of}
use Rattle.path_router.proofs.laws.methods_are_in_order.Goals as goal

pub returns-clause-rising : goal.returns-clause-rising
returns-clause-rising c bindings i j m n h e f = rise_at (methods_of bindings) i j m n (methods_rise bindings) h e f

pub returns-clause-exact : goal.returns-clause-exact
returns-clause-exact c bindings m = methods_exact bindings m

pub returns-clause-count : goal.returns-clause-count
returns-clause-count c = methods_counted
