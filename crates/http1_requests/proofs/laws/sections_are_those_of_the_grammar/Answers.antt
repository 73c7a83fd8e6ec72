use Rattle.http1_requests.proofs.SectionLaw.{section_read, section_reads}
use Rattle.http1_requests.proofs.laws.sections_are_those_of_the_grammar.Goals as goal

pub returns : goal.returns
returns c = λ bytes fields. (section_reads bytes fields, λ read. section_read bytes fields read.0 read.1)
