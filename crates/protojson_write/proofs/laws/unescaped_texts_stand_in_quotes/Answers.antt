use Rattle.protojson_write.proofs.PlainTexts.{unescaped_string}
use Rattle.protojson_write.proofs.laws.unescaped_texts_stand_in_quotes.Goals as goal

pub returns : goal.returns
returns c = unescaped_string c.written_texts_mean_their_values.ensures.strings
