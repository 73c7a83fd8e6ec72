use Rattle.std.proofs.Common.{refl}
use Rattle.percent_encoding.specs.Percent.{percent_decode}
use Rattle.http_rules.specs.PercentDecoding.{decode_but_slashes}
use Rattle.http_rules.proofs.examples.decoding_examples.Goals as goal

pub returns : goal.returns
unfolding decode_but_slashes percent_decode
returns c = record {
  slash_in_one = refl;
  slash_in_several = refl;
  once_in_one = refl;
  once_in_several = refl;
  twice =
      refl;
}
