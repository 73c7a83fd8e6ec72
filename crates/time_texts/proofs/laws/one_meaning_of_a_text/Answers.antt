use Rattle.time_texts.proofs.LawLemmas.{one_duration, one_timestamp}
use Rattle.time_texts.proofs.laws.one_meaning_of_a_text.Goals as goal

pub returns-clause-durations : goal.returns-clause-durations
returns-clause-durations c text a b x y = one_duration text a b x y

pub returns-clause-instants : goal.returns-clause-instants
returns-clause-instants c text a b x y = one_timestamp text a b x y
