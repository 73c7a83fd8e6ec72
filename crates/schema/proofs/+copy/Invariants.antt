use Rattle.std.proofs.Common.{◌≡◌, take}
use Rattle.schema.proofs.+copy.Given as goal

abbrev pub invariant-copies::copy_entries-loop-key : goal.invariant-copies::copy_entries-loop-key
invariant-copies::copy_entries-loop-key l = l.copies ≡ take l.key-index l.entries

abbrev pub invariant-copies::copy_items-loop-item : goal.invariant-copies::copy_items-loop-item
invariant-copies::copy_items-loop-item l = l.copies ≡ take l.item-index l.items

abbrev pub invariant-value::Value::copy-loop-number : goal.invariant-value::Value::copy-loop-number
invariant-value::Value::copy-loop-number l = l.fields ≡ take l.number-index l.number-items
