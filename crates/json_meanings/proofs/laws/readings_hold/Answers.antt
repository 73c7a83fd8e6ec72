use Rattle.json_meanings.proofs.FaultLemmas.{readings}
use Rattle.json_meanings.proofs.laws.readings_hold.Goals as goal

pub returns : goal.returns
returns c = readings
