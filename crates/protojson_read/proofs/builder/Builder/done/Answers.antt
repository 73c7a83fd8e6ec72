use Rattle.std.proofs.Common.{subst}
use Rattle.json_meanings.specs.FieldFaults.{tree_tokens}
use Rattle.protojson_read.specs.BuilderReads.{IsBehind}
use Rattle.protojson_read.specs.declared.builder.State.{State}
use Rattle.protojson_read.proofs.BuilderLemmas.{ended_value}
use Rattle.protojson_read.proofs.builder.Builder.done.Goals as goal

pub returns : goal.returns
returns c s id n place j reads =
    ended_value c.readings_hold.ensures c.args.self.part s id n c.value_in.result j
    (subst (λ (k : State). IsBehind c.args.self.part k s id n (tree_tokens j)) c.value_in.ensures reads.behind)
