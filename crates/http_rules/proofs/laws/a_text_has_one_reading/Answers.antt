use Rattle.http_rules.proofs.ReadingLemmas.{reading_is, reading_only}
use Rattle.http_rules.proofs.laws.a_text_has_one_reading.Goals as goal

pub returns : goal.returns
returns c = record { each = reading_is; one = reading_only }
