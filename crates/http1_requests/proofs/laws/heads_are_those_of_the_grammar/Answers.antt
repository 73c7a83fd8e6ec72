use Rattle.http1_requests.proofs.GrammarLaw.{head_read, head_reads}
use Rattle.http1_requests.proofs.laws.heads_are_those_of_the_grammar.Goals as goal

pub returns : goal.returns
returns c = λ bytes head. (head_reads bytes head, head_read bytes head)
