use Rattle.std.proofs.Common.{arith}
use Rattle.known_types.proofs.BytesLemmas.{read_as_it_is}
use Rattle.known_types.proofs.bytes.read_bytes.Goals as goal

pub returns-then-not-has_url_symbols : goal.returns-then-not-has_url_symbols
returns-then-not-has_url_symbols c = read_as_it_is _ _ (grind arith) c.read_standard.ensures
