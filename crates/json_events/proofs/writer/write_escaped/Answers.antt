-- What is written spells the text.
use Rattle.std.proofs.Common.{arith}
use Rattle.std.proofs.lemmas.Grind.{common_steps}
use Rattle.json_events.specs.StringOutput.{escaped}
use Rattle.json_events.proofs.writing.SpellingLemmas.{escaped_characters}
use Rattle.json_events.proofs.writer.write_escaped.Goals as goal

pub returns-in-None-clause-means : goal.returns-in-None-clause-means
returns-in-None-clause-means c = (
  escaped c.args.text.now,
  grind (arith, common_steps),
  escaped_characters c.args.text.now c.utf8.text,
)
