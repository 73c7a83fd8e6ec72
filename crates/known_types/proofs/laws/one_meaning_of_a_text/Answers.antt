use Rattle.std.proofs.Common.{map}
use Rattle.known_types.proofs.BytesLemmas.{one_meaning}
use Rattle.known_types.specs.BytesTexts.{standard_symbol}
use Rattle.known_types.proofs.laws.one_meaning_of_a_text.Goals as goal

pub returns : goal.returns
returns c text a b x y = one_meaning (map standard_symbol text) a b x y
