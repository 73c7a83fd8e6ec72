use Rattle.field_binding.proofs.EachBinding.{each_path}
use Rattle.field_binding.proofs.laws.each_path_is_bound.Goals as goal

pub returns : goal.returns
returns c api index path spans linked captures scalars =
    each_path c.every_text_is_read.ensures api index path spans captures scalars
    (c.bindings_are_servable.ensures.bindings api index scalars.binding linked scalars.call.binding_is).template
    (c.bindings_are_servable.ensures.servable api index scalars.binding linked scalars.call.binding_is).one_each
