use Rattle.scalar_texts.proofs.KeyLemmas.{key_laws}
use Rattle.scalar_texts.proofs.laws.keys_are_read_as_texts.Goals as goal

pub returns : goal.returns
returns c types scalar text utf8 =
    key_laws c.numbers_are_read_exactly.ensures.texts c.numbers_are_read_exactly.ensures.ranges
    c.integers_are_computed.ensures.numbers c.spelled_bytes_are_computed.ensures types text
    c.texts_mean_one_value.ensures.numbers c.one_meaning_of_a_text.ensures scalar utf8
