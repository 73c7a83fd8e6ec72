use Rattle.std.proofs.Common.{◌≡◌, ℕ, List, [], take, drop}
use Rattle.std.specs.List.{flat_map, list_any}
use Rattle.std.specs.Str.{bytes_eq}
use Rattle.set_faults.specs.KeySteps.{keys_of}
use Rattle.set_faults.specs.MessageFaults.{json_faults}
use Rattle.descriptor_pool.specs.TextSets.{has}
use Rattle.set_faults.proofs.key_faults.check_keys_with.Given as goal

abbrev pub invariant-loop-at : goal.invariant-loop-at
invariant-loop-at l = record {
  rest : json_faults l.message (flat_map keys_of (take l.at l.message.fields)) (drop l.at l.message.fields) ≡ json_faults l.message [] l.message.fields;
  keys : (q : List ℕ) → has l.before q ≡ list_any (bytes_eq q) (flat_map keys_of (take l.at l.message.fields));
}
