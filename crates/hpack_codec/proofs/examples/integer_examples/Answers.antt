use Rattle.std.proofs.Common.{refl}
use Rattle.base.specs.Base128.{groups_of}
use Rattle.hpack_codec.proofs.examples.integer_examples.Goals as goal

pub returns : goal.returns
unfolding groups_of
returns c = record {
  ten = refl;
  thirteen_hundred = refl;
  forty_two = refl;
  largest = refl;
  too_large = refl;
  too_long = refl;
  cut = refl;
  written = refl;
}
