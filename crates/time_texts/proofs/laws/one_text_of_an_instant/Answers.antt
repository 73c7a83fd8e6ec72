use Rattle.time_texts.proofs.LawLemmas.{one_text}
use Rattle.time_texts.proofs.UtcLemmas.{text_found}
use Rattle.time_texts.proofs.laws.one_text_of_an_instant.Goals as goal

pub returns-clause-one : goal.returns-clause-one
returns-clause-one c m s t x y = one_text m s t x y

pub returns-clause-computed : goal.returns-clause-computed
returns-clause-computed c m text fits shown = text_found m text fits shown
