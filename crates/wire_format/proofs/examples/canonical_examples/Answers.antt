use Rattle.std.proofs.Common.{refl}
use Rattle.schema.specs.declared.value.Item.TheVariants.{outs-Text, outs-Number, outs-Message}
use Rattle.schema.specs.declared.value.Slot.TheVariants.{outs-One, outs-Many, outs-Pairs}
use Rattle.wire_format.specs.CanonicalBytes.{canonical_bytes, canonical_within}
use Rattle.base.specs.Base128.{groups_of}
use Rattle.wire_records.specs.Varint.{varint}
use Rattle.wire_format.proofs.examples.canonical_examples.Goals as goal

pub returns : goal.returns
unfolding canonical_bytes canonical_within varint groups_of
returns c = record {
  text = simp (outs-One, outs-Text) refl;
  negative_number = simp (outs-One, outs-Number) refl;
  packed_list = simp (outs-Many, outs-Number) refl;
  map_of_two = simp (outs-Pairs, outs-Number) refl;
  merged_message = simp (outs-One, outs-Message, outs-Text) refl;
}
