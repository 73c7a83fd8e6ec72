use Rattle.protojson_read.proofs.BuilderLemmas.{all_ended}
use Rattle.protojson_read.proofs.laws.taken_trees_have_ended.Goals as goal

pub returns : goal.returns
returns c b d id n place j r = all_ended c.readings_hold.ensures b.part d id n b.state j r.behind
