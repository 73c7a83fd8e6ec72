use Rattle.hpack_codec.proofs.TableChanges.{adds, resizes, alone_keeps, indexed_keeps}
use Rattle.hpack_codec.proofs.laws.first_bytes_tell_what_becomes_of_the_table.Goals as goal

pub returns-clause-added : goal.returns-clause-added
returns-clause-added c = adds

pub returns-clause-resized : goal.returns-clause-resized
returns-clause-resized c = resizes

pub returns-clause-alone : goal.returns-clause-alone
returns-clause-alone c = alone_keeps

pub returns-clause-indexed : goal.returns-clause-indexed
returns-clause-indexed c = indexed_keeps
