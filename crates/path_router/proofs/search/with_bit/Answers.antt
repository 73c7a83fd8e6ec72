use Rattle.std.proofs.lemmas.Nat.Bits.{bit_at_set_same, bit_at_set_other}
use Rattle.std.specs.Int.{w64}
use Rattle.path_router.proofs.search.with_bit.Goals as goal

pub returns-clause-own : goal.returns-clause-own
returns-clause-own c = bit_at_set_same w64 c.args.bits c.args.number c.requires

pub returns-clause-others : goal.returns-clause-others
returns-clause-others c i other = bit_at_set_other w64 c.args.bits c.args.number c.requires i other
