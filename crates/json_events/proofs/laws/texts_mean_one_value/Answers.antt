use Rattle.json_events.proofs.numbers.NumberLemmas.{one_integer}
use Rattle.json_events.proofs.strings.StringLemmas.{one_text}
use Rattle.json_events.proofs.strings.Utf8Lemmas.{string_utf8}
use Rattle.json_events.proofs.laws.texts_mean_one_value.Goals as goal

pub returns-clause-strings : goal.returns-clause-strings
returns-clause-strings c = one_text

pub returns-clause-utf8 : goal.returns-clause-utf8
returns-clause-utf8 c = string_utf8

pub returns-clause-numbers : goal.returns-clause-numbers
returns-clause-numbers c = one_integer
