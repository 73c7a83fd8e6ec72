use Rattle.json_bodies.proofs.StayLemmas.{front_fault_stays}
use Rattle.json_bodies.proofs.laws.front_faults_stay.Goals as goal

pub returns : goal.returns
returns c d id n place bytes more f h =
    front_fault_stays c.fronts_have_one_list_of_tokens.ensures.fronts bytes more d id n place f h
