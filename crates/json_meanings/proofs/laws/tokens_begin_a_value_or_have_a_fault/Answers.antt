use Rattle.json_meanings.proofs.PlaceLemmas.{value_or_fault}
use Rattle.json_meanings.proofs.laws.tokens_begin_a_value_or_have_a_fault.Goals as goal

pub returns : goal.returns
returns c k id n ts sound texts tree = value_or_fault k sound texts id n (c.readings_hold.ensures k id n) ts tree
