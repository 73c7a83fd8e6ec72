use Rattle.known_types.proofs.SymbolLemmas.{written_is, written_len}
use Rattle.known_types.proofs.laws.written_bytes_are_symbols.Goals as goal

pub returns-clause-symbols : goal.returns-clause-symbols
returns-clause-symbols c bytes are = written_is bytes are

pub returns-clause-len : goal.returns-clause-len
returns-clause-len c bytes = written_len bytes
