use Rattle.std.specs.Str.Lossy.{utf8_lossy}
use Rattle.status_map.specs.ErrorBody.{error_body}
use Rattle.status_map.proofs.BodyLemmas.{error_body_is}
use Rattle.status_map.proofs.LossyLemmas.{lossy_is_text}
use Rattle.status_map.proofs.laws.error_bodies_tell_the_code_and_the_text.Goals as goal

pub returns : goal.returns
returns c code text small =
    let laws = c.written_texts_mean_their_values.ensures in
    let message = utf8_lossy text in
    let body = error_body_is code message (laws.numbers code small) (laws.strings message (lossy_is_text text)) in
    c.error_bodies_are_texts_of_an_object.ensures code message (error_body code message) body
