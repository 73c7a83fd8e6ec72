use Rattle.flow_windows.proofs.WindowLemmas.{may_change_all}
use Rattle.flow_windows.proofs.laws.resizes_stay_in_range.Goals as goal

pub returns : goal.returns
returns c = may_change_all
