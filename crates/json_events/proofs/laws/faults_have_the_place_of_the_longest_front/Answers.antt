use Rattle.json_events.proofs.reading.TokenLists.{fault_front, deep_tokens}
use Rattle.json_events.proofs.laws.faults_have_the_place_of_the_longest_front.Goals as goal

pub returns-clause-tokens : goal.returns-clause-tokens
returns-clause-tokens c = fault_front

pub returns-clause-deep : goal.returns-clause-deep
returns-clause-deep c = deep_tokens
