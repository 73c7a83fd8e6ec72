use Rattle.leaf_texts.proofs.EachLeafText.{each_leaf, leaf_memory}
use Rattle.leaf_texts.proofs.laws.every_leaf_text_is_read.Goals as goal

pub returns : goal.returns
returns c = record { read = each_leaf c.every_text_is_read.ensures; memory = leaf_memory }
