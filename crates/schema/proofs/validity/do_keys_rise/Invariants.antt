use Rattle.std.proofs.Common.{◌↔◌, drop}
use Rattle.schema.specs.Pairs.{KeysRise, KeysRiseFrom}
use Rattle.schema.proofs.validity.do_keys_rise.Given as goal

abbrev pub invariant-loop-key : goal.invariant-loop-key
invariant-loop-key l = KeysRiseFrom l.low (drop l.key-index l.rest) ↔ KeysRise l.entries
