use Rattle.mask_texts.proofs.MaskLemmas.{means_text, one_meaning, text_means}
use Rattle.mask_texts.proofs.laws.written_masks_are_read_back.Goals as goal

pub returns-clause-meant : goal.returns-clause-meant
returns-clause-meant c text paths = (text_means text paths, means_text text paths)

pub returns-clause-apart : goal.returns-clause-apart
returns-clause-apart c text a b x y = one_meaning text a b (text_means text a x) (text_means text b y)
