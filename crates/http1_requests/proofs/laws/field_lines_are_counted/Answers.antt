use Rattle.std.proofs.Common.{ap, ◌∙◌, append-nil}
use Rattle.httparse.specs.Grammar.{print_section}
use Rattle.http1_requests.specs.HeadEnd.{line_feeds}
use Rattle.http1_requests.proofs.CauseLemmas.{lines_of_read}
use Rattle.http1_requests.proofs.LineLemmas.{line_feeds_print_section}
use Rattle.http1_requests.proofs.laws.field_lines_are_counted.Goals as goal

pub returns-clause-head : goal.returns-clause-head
returns-clause-head c = lines_of_read

pub returns-clause-section : goal.returns-clause-section
returns-clause-section c = λ bytes fields last x.
    ap line_feeds (x.1 ∙ append-nil (print_section fields last)) ∙ line_feeds_print_section fields last x.0
