use Rattle.std.proofs.Common.{◌≡◌, ◌↔◌, List, ℕ, subst}
use Rattle.http_rules.specs.TemplateFaults.{IsUnlessNoMemory}
use Rattle.http_rules.specs.TemplatePrefix.{IsSyntaxFault}
use Rattle.http_rules.specs.TemplateReading.{reading}
use Rattle.http_rules.proofs.AnswerLemmas.{refused_at}
use Rattle.http_rules.proofs.ReadingLemmas.{answer_reads}
use Rattle.http_rules.proofs.parser.parse_template.Goals as goal

pub returns-clause-syntax : goal.returns-clause-syntax
returns-clause-syntax c offset = subst (λ (s : List ℕ). (c.read.result ≡ refused_at offset) ↔ IsSyntaxFault s offset) c.as_bytes.ensures.value (c.read.ensures.syntax offset)

pub returns-clause-reads : goal.returns-clause-reads
returns-clause-reads c =
    subst (λ (s : List ℕ). IsUnlessNoMemory c.read.result (reading s)) c.as_bytes.ensures.value
    (answer_reads c.read.result _ c.read.ensures.means c.read.ensures.template c.read.ensures.only_many c.read.ensures.syntax)
