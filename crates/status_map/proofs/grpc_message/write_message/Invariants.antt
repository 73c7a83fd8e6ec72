use Rattle.std.proofs.Common.{◌≡◌, ◌++◌}
use Rattle.base.specs.Extends.{Extends}
use Rattle.percent_encoding.specs.Iter.{encoded_text}
use Rattle.percent_encoding.specs.Percent.{percent_encode}
use Rattle.status_map.specs.declared.grpc_message.TheConstants.{ESCAPED}
use Rattle.status_map.proofs.grpc_message.write_message.Given as goal

-- what was written, and what is left to write, is all that is to be written
abbrev pub invariant-loop-piece : goal.invariant-loop-piece
invariant-loop-piece l = record {
  extends : Extends l.initial.out.items l.out.items;
  written : l.out.items ++ encoded_text l.piece-iterator ≡ l.initial.out.items ++ percent_encode ESCAPED l.fn.text;
}
