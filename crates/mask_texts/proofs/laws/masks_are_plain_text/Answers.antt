use Rattle.mask_texts.proofs.JoinedLemmas.{written_utf8}
use Rattle.mask_texts.proofs.MaskLemmas.{means_utf8, means_written, text_means}
use Rattle.mask_texts.proofs.laws.masks_are_plain_text.Goals as goal

pub returns-clause-written : goal.returns-clause-written
returns-clause-written c text paths is = means_written text paths (text_means text paths is)

pub returns-clause-utf8 : goal.returns-clause-utf8
returns-clause-utf8 c text paths is = written_utf8 text (means_written text paths (text_means text paths is))

pub returns-clause-read : goal.returns-clause-read
returns-clause-read c text paths m = means_utf8 text paths m
