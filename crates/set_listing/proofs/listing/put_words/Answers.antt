use Rattle.std.proofs.Common.{◌++◌, ◌∷◌, [], ◌∙◌, ap}
use Rattle.set_listing.proofs.ListingLemmas.{words_appended}
use Rattle.set_listing.proofs.listing.put_words.Goals as goal

pub returns : goal.returns
returns c =
    words_appended c.args.binding.now c.args.method.now c.args.body.now c.args.response.now c.args.out.now.items _ _ _ _ _ _ _
    (c.in_ok-put_word.ensures ∙ ap (λ z. c.args.out.now.items ++ (z ++ 32 ∷ [])) c.as_str.ensures.value)
    c.in_ok-put_template.ensures.ok
    c.in_ok-push.ensures.items
    (c.in_ok-put_word-2.ensures ∙ ap (λ z. c.push.new.self.items ++ (z ++ 32 ∷ [])) c.as_str-2.ensures.value)
    c.in_ok-put_word-3.ensures
    (c.in_ok-extend_from_slice.ensures.items ∙ ap (λ z. c.put_word-3.new.out.items ++ z) c.as_bytes.ensures.value)
    c.in_ok-push-2.ensures.items
