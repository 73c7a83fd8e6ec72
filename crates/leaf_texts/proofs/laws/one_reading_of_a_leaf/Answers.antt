use Rattle.leaf_texts.proofs.OneLeafReading.{one_reading}
use Rattle.leaf_texts.proofs.laws.one_reading_of_a_leaf.Goals as goal

pub returns : goal.returns
returns c types kind text r s h k n m =
    one_reading
    (record {
      item = c.items_and_faults_are_apart.ensures.item;
      apart = c.items_and_faults_are_apart.ensures.apart;
      fault = c.items_and_faults_are_apart.ensures.fault;
    })
    types kind text r s h k n m
