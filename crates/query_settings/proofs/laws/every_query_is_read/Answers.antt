use Rattle.query_settings.proofs.OneReading.{each_query}
use Rattle.query_settings.proofs.laws.every_query_is_read.Goals as goal

pub returns : goal.returns
returns c s ignore query = each_query
    (record { read = c.every_leaf_text_is_read.ensures.read; memory = c.every_leaf_text_is_read.ensures.memory }) s ignore query
