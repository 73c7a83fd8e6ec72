use Rattle.time_texts.specs.DurationReading.{duration_reading}
use Rattle.time_texts.specs.TimestampReading.{timestamp_reading}
use Rattle.time_texts.proofs.LawLemmas.{one_duration_reading, one_timestamp_reading}
use Rattle.time_texts.proofs.ReadingLemmas.{duration_is, timestamp_is}
use Rattle.time_texts.proofs.laws.readings_are_computed.Goals as goal

pub returns-clause-durations : goal.returns-clause-durations
returns-clause-durations c text r x = one_duration_reading text r (duration_reading text) x (duration_is text)

pub returns-clause-instants : goal.returns-clause-instants
returns-clause-instants c text r x = one_timestamp_reading text r (timestamp_reading text) x (timestamp_is text)

pub returns-clause-duration_of_text : goal.returns-clause-duration_of_text
returns-clause-duration_of_text c text = duration_is text

pub returns-clause-instant_of_text : goal.returns-clause-instant_of_text
returns-clause-instant_of_text c text = timestamp_is text
