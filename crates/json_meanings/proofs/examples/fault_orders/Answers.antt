use Rattle.std.proofs.Common.{refl}
use Rattle.json_meanings.proofs.examples.fault_orders.Goals as goal

pub returns : goal.returns
returns c = record {
  oneof_before_a_bracket = refl;
  oneof_before_shape = refl;
  oneof_before_number = refl;
  oneof_before_depth = refl;
  shape_before_depth = refl;
  key_before_depth = refl;
  null_before_depth = refl;
  first_of_two = refl;
}
