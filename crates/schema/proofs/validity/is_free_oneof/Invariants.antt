use Rattle.std.proofs.Common.{◌↔◌, drop}
use Rattle.schema.specs.Validity.{IsFreeOneof}
use Rattle.schema.proofs.validity.is_free_oneof.Given as goal

abbrev pub invariant-loop-number : goal.invariant-loop-number
invariant-loop-number l = IsFreeOneof l.fields l.oneof (drop l.number-index l.slots) ↔ IsFreeOneof l.fields l.oneof l.slots
