use Rattle.json_meanings.proofs.PlaceLemmas.{at_first_token}
use Rattle.json_meanings.proofs.laws.faults_are_at_the_first_token.Goals as goal

pub returns : goal.returns
returns c k id n ts f sound texts first = at_first_token k sound texts id n (c.readings_hold.ensures k id n) ts f first
