use Rattle.std.proofs.Common.{map}
use Rattle.std.specs.List.{filter_map}
use Rattle.wire_records.specs.RecordViews.{payload_of}
use Rattle.wire_format.specs.Scalars.{scalar_of}
use Rattle.wire_format.proofs.decoding.ItemLemmas.{last_is}
use Rattle.wire_format.proofs.items.last_scalar.Goals as goal

pub loop-payload-init : goal.loop-payload-init
loop-payload-init c = record { rest = c.requires; told = last_is (filter_map (scalar_of c.args.types.now c.args.scalar) (map payload_of c.args.payloads.now)) }
