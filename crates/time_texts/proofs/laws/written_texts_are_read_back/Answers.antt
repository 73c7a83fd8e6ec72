use Rattle.time_texts.proofs.ShownLemmas.{shown_duration, shown_timestamp}
use Rattle.time_texts.proofs.laws.written_texts_are_read_back.Goals as goal

pub returns-clause-durations : goal.returns-clause-durations
returns-clause-durations c m fits = shown_duration m fits

pub returns-clause-instants : goal.returns-clause-instants
returns-clause-instants c m text fits shown = shown_timestamp m text fits shown
