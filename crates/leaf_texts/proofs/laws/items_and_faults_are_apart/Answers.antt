use Rattle.leaf_texts.proofs.OneLeafReading.{ScalarsAreApart, items_apart, one_fault, one_item}
use Rattle.leaf_texts.proofs.laws.items_and_faults_are_apart.Goals as goal

pub returns : goal.returns
returns c =
    let scalars : ScalarsAreApart = record {
      item = c.items_and_faults_are_apart.ensures.item;
      apart = c.items_and_faults_are_apart.ensures.apart;
      fault = c.items_and_faults_are_apart.ensures.fault;
    } in
    record { item = one_item scalars; apart = items_apart scalars; fault = one_fault scalars }
