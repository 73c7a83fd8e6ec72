use Rattle.mask_texts.proofs.MaskLemmas.{one_meaning}
use Rattle.mask_texts.proofs.laws.one_meaning_of_a_text.Goals as goal

pub returns : goal.returns
returns c text a b x y = one_meaning text a b x y
