use Rattle.scalar_texts.proofs.ReadingLemmas.{one_reading}
use Rattle.scalar_texts.proofs.laws.one_reading_of_a_text.Goals as goal

pub returns : goal.returns
returns c = one_reading c.texts_mean_one_value.ensures.numbers c.one_meaning_of_a_text.ensures
