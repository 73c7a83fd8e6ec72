use Rattle.std.proofs.Common.{arith}
use Rattle.known_types.proofs.BytesLemmas.{read_rest, read_whole}
use Rattle.known_types.proofs.bytes.read_standard.Goals as goal

pub returns-then-text-eq0 : goal.returns-then-text-eq0
returns-then-text-eq0 c = read_whole _ _ (grind arith) c.read_padded.ensures

pub returns-else-text-eq0 : goal.returns-else-text-eq0
returns-else-text-eq0 c = read_rest _ _ (grind arith) c.read_unpadded.ensures
