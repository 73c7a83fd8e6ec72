use Rattle.protojson_read.proofs.BuilderLemmas.{whole_is}
use Rattle.protojson_read.proofs.builder.Builder.whole.Goals as goal

pub returns : goal.returns
returns c = record {
  ended = c.holds_value.ensures;
  tokens = λ s id n place ts reads begins.
      whole_is c.readings_hold.ensures c.args.self.now.part s id n c.args.self.now.state c.holds_value.result ts
      c.holds_value.ensures reads.behind begins;
}
