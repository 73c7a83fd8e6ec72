use Rattle.std.proofs.Common.{◌≡◌, ◌++◌, length}
use Rattle.base.specs.Extends.{Extends}
use Rattle.json_events.specs.StringOutput.{escaped}
use Rattle.json_events.proofs.writer.write_escaped.Given as goal

-- what was written, and what is left to write, is all that is to be written
abbrev pub invariant-pieces : goal.invariant-pieces
invariant-pieces l = record {
  extends : Extends l.initial.out.items l.out.items;
  written : l.out.items ++ escaped l.rest ≡ l.initial.out.items ++ escaped l.text;
}

abbrev pub decreases-pieces : goal.decreases-pieces
decreases-pieces l = length l.rest
