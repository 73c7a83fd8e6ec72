use Rattle.time_texts.proofs.PrintableLemmas.{duration_printable, timestamp_printable}
use Rattle.time_texts.proofs.laws.read_times_are_printable.Goals as goal

pub returns-clause-durations : goal.returns-clause-durations
returns-clause-durations c text m means = duration_printable text m means

pub returns-clause-instants : goal.returns-clause-instants
returns-clause-instants c text m means = timestamp_printable text m means
