-- What is written is a string that stands for the text.
use Rattle.std.proofs.Common.{arith}
use Rattle.std.proofs.lemmas.Grind.{common_steps}
use Rattle.json_events.specs.StringOutput.{json_string}
use Rattle.json_events.proofs.writing.SpellingLemmas.{json_string_denotes}
use Rattle.json_events.proofs.writer.write_string.Goals as goal

pub returns-clause-means : goal.returns-clause-means
returns-clause-means c = (
  json_string c.args.text.now,
  grind (arith, common_steps),
  json_string_denotes c.args.text.now c.utf8.text,
)
