use Rattle.hpack_codec.proofs.ConnectionLemmas.{next_answers, next_stands, none_given}
use Rattle.hpack_codec.proofs.laws.decoders_stand_for_their_blocks.Goals as goal

pub returns-clause-fresh : goal.returns-clause-fresh
returns-clause-fresh c = none_given

pub returns-clause-stands : goal.returns-clause-stands
returns-clause-stands c = next_stands

pub returns-clause-answers : goal.returns-clause-answers
returns-clause-answers c = next_answers
