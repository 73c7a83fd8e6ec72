use Rattle.std.proofs.Common.{ap}
use Rattle.http1_requests.specs.ExampleBytes.{lines}
use Rattle.http1_requests.specs.HeadExamples.{lone_continuation}
use Rattle.http1_requests.specs.HeadJudgement.{judge_read}
use Rattle.std.proofs.Common.{◌++◌, ◌∷◌, []}
use Rattle.http1_requests.proofs.OnExamples.{on_examples}
use Rattle.http1_requests.proofs.TextFacts.{no_text, unread}
use Rattle.http1_requests.proofs.examples.targets_are_text.Goals as goal

pub returns : goal.returns
unfolding on_examples
returns c = ap judge_read (unread (lines (lone_continuation ++ [] ∷ [])) no_text)
