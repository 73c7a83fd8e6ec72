use Rattle.set_faults.proofs.FaultlessSets.{no_set_faults}
use Rattle.set_faults.proofs.laws.lawful_sets_are_faultless.Goals as goal

pub returns : goal.returns
returns c = λ ds ms h. no_set_faults ds ms h
