use Rattle.field_binding.proofs.ReadingLemmas.{fails_at, variable_of}
use Rattle.field_binding.proofs.path_values.read_variable.Goals as goal

pub returns-in-Ok : goal.returns-in-Ok
returns-in-Ok c = record {
  numbers = c.as_slice-2.result.now;
  text = c.in_ok-text.text;
  variable =
      variable_of _ _ _ _ _ c.index-as_slice-index.result _ _ c.as_slice.ensures c.requires.readable.one_path_each
      c.requires.index c.index-as_slice-index.is c.as_slice-2.ensures c.in_ok-text.ensures;
  sets = c.in-Ok.ensures;
}

pub returns-in-Err : goal.returns-in-Err
returns-in-Err c =
    rw c.of_variable.ensures
    (fails_at c.args.types.now c.args.input c.args.binding.now c.args.path.now c.args.captures.now c.args.index
    c.as_slice-2.result.now c.in_ok-text.text c.in-Err.fault
    (variable_of _ _ _ _ _ c.index-as_slice-index.result _ _ c.as_slice.ensures c.requires.readable.one_path_each
    c.requires.index c.index-as_slice-index.is c.as_slice-2.ensures c.in_ok-text.ensures)
    c.in-Err.ensures)
