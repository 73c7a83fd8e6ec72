use Rattle.known_types.proofs.BytesLemmas.{written_apart, written_spells}
use Rattle.known_types.proofs.laws.written_bytes_are_read_back.Goals as goal

pub returns-clause-spelled : goal.returns-clause-spelled
returns-clause-spelled c bytes are = written_spells bytes are

pub returns-clause-apart : goal.returns-clause-apart
returns-clause-apart c a b first second same = written_apart a b first second same
