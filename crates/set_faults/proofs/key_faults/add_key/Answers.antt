use Rattle.base.proofs.TextLemmas.{text_set_more}
use Rattle.set_faults.proofs.key_faults.add_key.Goals as goal

pub returns : goal.returns
returns c = text_set_more c.args.key c.args.keys.now c.insert.new.self c.in_ok-insert.ensures.updates
