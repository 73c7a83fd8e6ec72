use Rattle.http_rules.proofs.SpanLemmas.{one_fit}
use Rattle.http_rules.proofs.laws.fits_in_one_way.Goals as goal

pub returns : goal.returns
returns c = one_fit
