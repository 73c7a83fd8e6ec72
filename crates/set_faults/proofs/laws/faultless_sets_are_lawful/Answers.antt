use Rattle.set_faults.proofs.LawfulSetLemmas.{set_lawful}
use Rattle.set_faults.proofs.laws.faultless_sets_are_lawful.Goals as goal

pub returns : goal.returns
returns c = λ ds ms h. set_lawful (record { readings = c.a_text_has_one_reading.ensures.each; kinds = c.named_methods_are_kinds.ensures }) ds ms h
