use Rattle.json_meanings.proofs.SpelledLemmas.{spelled_is}
use Rattle.json_meanings.proofs.laws.spelled_bytes_are_computed.Goals as goal

pub returns : goal.returns
returns c text bytes are = spelled_is c.one_meaning_of_a_text.ensures text are bytes
