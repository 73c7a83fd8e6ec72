use Rattle.mask_texts.proofs.ShownMasks.{paths_back}
use Rattle.mask_texts.proofs.laws.items_keep_their_paths.Goals as goal

pub returns : goal.returns
returns c paths = paths_back paths
