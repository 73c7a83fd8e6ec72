use Rattle.json_events.proofs.reading.TokenLists.{told_first, told_first_of_front, text_pending}
use Rattle.json_events.proofs.laws.bytes_have_one_list_of_tokens.Goals as goal

pub returns-clause-first : goal.returns-clause-first
returns-clause-first c = told_first

pub returns-clause-front : goal.returns-clause-front
returns-clause-front c = told_first_of_front

pub returns-clause-text : goal.returns-clause-text
returns-clause-text c = text_pending
