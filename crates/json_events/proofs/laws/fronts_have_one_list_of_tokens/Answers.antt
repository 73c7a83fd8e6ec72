use Rattle.json_events.proofs.reading.FrontLemmas.{has_longest_front}
use Rattle.json_events.proofs.laws.fronts_have_one_list_of_tokens.Goals as goal

pub returns-clause-longest : goal.returns-clause-longest
returns-clause-longest c = has_longest_front
