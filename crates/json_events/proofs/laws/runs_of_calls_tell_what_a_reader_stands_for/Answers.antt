use Rattle.json_events.proofs.reading.CallRuns.{run_tells}
use Rattle.json_events.proofs.laws.runs_of_calls_tell_what_a_reader_stands_for.Goals as goal

pub returns : goal.returns
returns c = run_tells
