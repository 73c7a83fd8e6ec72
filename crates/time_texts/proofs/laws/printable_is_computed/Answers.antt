use Rattle.time_texts.proofs.PrintableLemmas.{duration_decides, timestamp_decides}
use Rattle.time_texts.proofs.laws.printable_is_computed.Goals as goal

pub returns-clause-durations : goal.returns-clause-durations
returns-clause-durations c m = duration_decides m

pub returns-clause-instants : goal.returns-clause-instants
returns-clause-instants c m = timestamp_decides m
