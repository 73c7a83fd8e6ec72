use Rattle.http1_requests.proofs.ChunkLaw.{line_read, line_reads}
use Rattle.http1_requests.proofs.laws.chunk_lines_are_those_of_the_grammar.Goals as goal

pub returns : goal.returns
returns c = λ bytes line. (line_reads bytes line, line_read bytes line)
