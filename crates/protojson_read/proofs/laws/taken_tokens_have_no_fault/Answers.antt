use Rattle.protojson_read.proofs.laws.taken_tokens_have_no_fault.Goals as goal

pub returns : goal.returns
returns c b d id n place ts f r h = (c.readings_hold.ensures d id n).no_fault r.behind.levels ts f r.behind.stands h
