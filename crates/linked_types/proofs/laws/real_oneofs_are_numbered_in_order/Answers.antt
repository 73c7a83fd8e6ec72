use Rattle.linked_types.proofs.OneofNumbers.{numbers_rise, numbers_apart, numbers_fill}
use Rattle.linked_types.proofs.laws.real_oneofs_are_numbered_in_order.Goals as goal

pub returns : goal.returns
returns c = record {
  order = numbers_rise;
  once = numbers_apart;
  whole = numbers_fill;
}
