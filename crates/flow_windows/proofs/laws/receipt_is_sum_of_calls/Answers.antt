use Rattle.flow_windows.proofs.ReceiptLemmas.{allowance_after_all_sum}
use Rattle.flow_windows.proofs.laws.receipt_is_sum_of_calls.Goals as goal

pub returns : goal.returns
returns c = allowance_after_all_sum
