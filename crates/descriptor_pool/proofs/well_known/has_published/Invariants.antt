use Rattle.std.proofs.Common.{◌≡◌, drop}
use Rattle.std.specs.List.{list_any}
use Rattle.descriptor_pool.specs.WellKnownTypes.{is_published}
use Rattle.descriptor_pool.proofs.well_known.has_published.Given as goal

abbrev pub invariant-loop-field : goal.invariant-loop-field
invariant-loop-field l = list_any (is_published l.name l.number l.type_number l.repeated) (drop l.field-index l.fields) ≡ list_any (is_published l.name l.number l.type_number l.repeated) l.fields
