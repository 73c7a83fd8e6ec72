use Rattle.flow_windows.proofs.WindowLemmas.{window_after_all_sum, window_after_all-range, window_after_all_whole}
use Rattle.flow_windows.proofs.laws.window_is_sum_of_calls.Goals as goal

pub returns-clause-sum : goal.returns-clause-sum
returns-clause-sum c = window_after_all_sum

pub returns-clause-range : goal.returns-clause-range
returns-clause-range c = window_after_all-range

pub returns-clause-all : goal.returns-clause-all
returns-clause-all c = window_after_all_whole
