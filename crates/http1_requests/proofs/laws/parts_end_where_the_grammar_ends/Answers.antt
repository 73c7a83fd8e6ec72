use Rattle.http1_requests.proofs.CutLaw.{head_cut, cut_head, section_cut, cut_section, line_cut, cut_line}
use Rattle.http1_requests.proofs.laws.parts_end_where_the_grammar_ends.Goals as goal

pub returns-clause-heads : goal.returns-clause-heads
returns-clause-heads c = λ bytes part rest head.
    ((λ x. head_cut bytes part rest head x.0 x.1), (λ x. cut_head bytes part rest head x.0 x.1 x.2))

pub returns-clause-sections : goal.returns-clause-sections
returns-clause-sections c = λ bytes part rest fields last.
    ((λ x. section_cut bytes part rest fields last x.0 x.1), (λ x. cut_section bytes part rest fields last x.0 x.1 x.2))

pub returns-clause-lines : goal.returns-clause-lines
returns-clause-lines c = λ bytes part rest line.
    ((λ x. line_cut bytes part rest line x.0 x.1), (λ x. cut_line bytes part rest line x.0 x.1 x.2))
