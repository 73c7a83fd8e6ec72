use Rattle.linked_api.proofs.BindingLemmas.{linked_binding_of, linked_method_of, linked_servable}
use Rattle.linked_api.proofs.laws.bindings_are_servable.Goals as goal

pub returns-clause-bindings : goal.returns-clause-bindings
returns-clause-bindings c = linked_binding_of

pub returns-clause-servable : goal.returns-clause-servable
returns-clause-servable c = linked_servable

pub returns-clause-methods : goal.returns-clause-methods
returns-clause-methods c = linked_method_of
