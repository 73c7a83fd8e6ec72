use Rattle.std.proofs.Common.{◌≡◌, ◌↔◌, Option, Some, None, Ok, refl, ap, sym}
use Rattle.schema.specs.declared.value.Value.{Value}
use Rattle.wire_format.specs.Decoding.{unless, fault_of, value_of, decoding}
use Rattle.wire_format.specs.WireFaults.{Fault}
use Rattle.wire_format.proofs.laws.decodes_without_fault.Goals as goal

by_fault : (o : Option Fault) (x v : Value) → unless o x ≡ Ok v ↔ ((o ≡ None) × (v ≡ x))
by_fault None x v = (λ h. (refl, cc), λ p. ap (λ (y : Value). Ok y) (sym p.1))
by_fault (Some f) x v = (λ h. absurd (cc), λ p. absurd (let e : Some f ≡ None = p.0 in cc))

pub returns : goal.returns
unfolding decoding
returns c types id bytes v = by_fault (fault_of types id bytes) (value_of types id bytes) v
