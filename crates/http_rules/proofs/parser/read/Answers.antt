use Rattle.http_rules.proofs.AnswerLemmas.{fault_exact, fault_read, fault_many, whole_exact, whole_read, whole_many}
use Rattle.http_rules.proofs.parser.read.Goals as goal

pub returns-in-Some-clause-read : goal.returns-in-Some-clause-read
returns-in-Some-clause-read c t k w = absurd (fault_read c.args.text.now c.in-Some.offset t c.in-Some.ensures k)

pub returns-in-Some-clause-many : goal.returns-in-Some-clause-many
returns-in-Some-clause-many c k = absurd (fault_many c.args.text.now c.in-Some.offset c.in-Some.ensures k)

pub returns-in-Some-clause-syntax : goal.returns-in-Some-clause-syntax
returns-in-Some-clause-syntax c k = fault_exact c.args.text.now c.in-Some.offset k c.in-Some.ensures

pub returns-in-None-clause-read : goal.returns-in-None-clause-read
returns-in-None-clause-read c t k w = whole_read c.build.result c.args.text.now t c.build.ensures.means c.build.ensures.over k w

pub returns-in-None-clause-many : goal.returns-in-None-clause-many
returns-in-None-clause-many c k = whole_many c.build.result c.args.text.now c.build.ensures.means c.build.ensures.few c.build.ensures.over k

pub returns-in-None-clause-syntax : goal.returns-in-None-clause-syntax
returns-in-None-clause-syntax c k = whole_exact c.build.result c.args.text.now k c.in-None.ensures c.build.ensures.over
