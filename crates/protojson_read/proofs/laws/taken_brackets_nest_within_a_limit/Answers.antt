use Rattle.protojson_read.proofs.laws.taken_brackets_nest_within_a_limit.Goals as goal

pub returns : goal.returns
returns c b d id n place ts r =
    (c.brackets_nest_within_a_limit.ensures d id n).stands r.behind.levels ts r.behind.stands
