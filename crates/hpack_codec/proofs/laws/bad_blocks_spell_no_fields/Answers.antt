use Rattle.hpack_codec.proofs.FaultLemmas.{bad_spells_none}
use Rattle.hpack_codec.proofs.laws.bad_blocks_spell_no_fields.Goals as goal

pub returns : goal.returns
returns c = bad_spells_none
