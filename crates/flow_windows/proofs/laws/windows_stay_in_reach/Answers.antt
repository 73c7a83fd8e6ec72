use Rattle.flow_windows.proofs.WindowLemmas.{call_stays}
use Rattle.flow_windows.proofs.laws.windows_stay_in_reach.Goals as goal

pub returns : goal.returns
returns c = call_stays
