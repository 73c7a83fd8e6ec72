use Rattle.status_map.proofs.TextLemmas.{body_is_text}
use Rattle.status_map.proofs.laws.error_bodies_are_texts_of_an_object.Goals as goal

pub returns : goal.returns
returns c = body_is_text c.written_texts_mean_their_values.ensures.strings
