use Rattle.json_events.proofs.reading.CallRuns.{run_so_far, run_tokens, run_refused, run_whole, run_cut}
use Rattle.json_events.proofs.laws.pieces_change_nothing.Goals as goal

pub returns-clause-so_far : goal.returns-clause-so_far
returns-clause-so_far c = run_so_far

pub returns-clause-told : goal.returns-clause-told
returns-clause-told c = run_tokens

pub returns-clause-refused : goal.returns-clause-refused
returns-clause-refused c = run_refused

pub returns-clause-whole : goal.returns-clause-whole
returns-clause-whole c = run_whole

pub returns-clause-cut : goal.returns-clause-cut
returns-clause-cut c = run_cut
