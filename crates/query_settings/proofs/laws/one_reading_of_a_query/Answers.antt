use Rattle.query_settings.proofs.OneReading.{one_reading}
use Rattle.query_settings.proofs.laws.one_reading_of_a_query.Goals as goal

pub returns : goal.returns
returns c s ignore query r t h g n m =
    one_reading
    (record {
      item = c.items_and_faults_are_apart.ensures.item;
      apart = c.items_and_faults_are_apart.ensures.apart;
      fault = c.items_and_faults_are_apart.ensures.fault;
    })
    s ignore query r t h g n m
