use Rattle.std.proofs.Common.{◌≡◌, drop}
use Rattle.std.specs.List.{list_any}
use Rattle.set_faults.specs.MessageFaults.{is_entry_key}
use Rattle.set_faults.proofs.field_faults.has_key.Given as goal

abbrev pub invariant-loop-field : goal.invariant-loop-field
invariant-loop-field l = list_any is_entry_key (drop l.field-index l.fields) ≡ list_any is_entry_key l.fields
