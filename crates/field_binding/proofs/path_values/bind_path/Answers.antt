use Rattle.field_binding.proofs.ReadingLemmas.{bound, readable, refused}
use Rattle.field_binding.proofs.path_values.bind_path.Goals as goal

pub read_variables-requires : goal.read_variables-requires
read_variables-requires c =
    readable _ _ _ _ _ _ c.call_of.ensures.call c.call_of.ensures.template c.call_of.ensures.servable.one_each
    c.requires.captures c.requires.scalars

pub returns-in-Ok : goal.returns-in-Ok
returns-in-Ok c = bound _ _ _ _ _ _ c.call_of.ensures.call _ _ c.new.ensures c.in-Ok.ensures

pub returns-in-Err : goal.returns-in-Err
returns-in-Err c = refused _ _ _ _ _ _ c.call_of.ensures.call _ c.in-Err.ensures
