use Rattle.mask_texts.proofs.MaskLemmas.{means_read, read_means}
use Rattle.mask_texts.proofs.laws.meanings_are_computed.Goals as goal

pub returns : goal.returns
returns c text paths = (read_means text paths, means_read text paths)
