use Rattle.std.proofs.Common.{◌≡◌, ◌++◌, drop}
use Rattle.std.specs.List.{flat_map}
use Rattle.hpack_codec.specs.EncodedBlock.{encoded_field, pairs_of}
use Rattle.base.specs.Extends.{Extends}
use Rattle.hpack_codec.proofs.encoding.put_fields.Given as goal

abbrev pub invariant-loop-field : goal.invariant-loop-field
invariant-loop-field l = record {
  kept : Extends l.initial.out.items l.out.items;
  told : l.out.items ++ flat_map encoded_field (pairs_of (drop l.field-index l.fields)) ≡ l.initial.out.items ++ flat_map encoded_field (pairs_of l.fields);
}
