use Rattle.time_texts.proofs.UtcLemmas.{instant_shown}
use Rattle.time_texts.proofs.laws.printable_instants_have_texts.Goals as goal

pub returns : goal.returns
returns c m fits = instant_shown m fits
