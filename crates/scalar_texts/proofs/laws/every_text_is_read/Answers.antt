use Rattle.scalar_texts.proofs.EachReading.{each_reading}
use Rattle.scalar_texts.proofs.laws.every_text_is_read.Goals as goal

pub returns : goal.returns
returns c = each_reading c.spelled_bytes_are_computed.ensures c.one_answer_of_a_text.ensures.some
