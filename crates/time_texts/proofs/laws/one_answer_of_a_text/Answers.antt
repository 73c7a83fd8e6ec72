use Rattle.time_texts.proofs.LawLemmas.{one_duration_reading, one_timestamp_reading}
use Rattle.time_texts.proofs.laws.one_answer_of_a_text.Goals as goal

pub returns-clause-durations : goal.returns-clause-durations
returns-clause-durations c text a b x y = one_duration_reading text a b x y

pub returns-clause-instants : goal.returns-clause-instants
returns-clause-instants c text a b x y = one_timestamp_reading text a b x y
