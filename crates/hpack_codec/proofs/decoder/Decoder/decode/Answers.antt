use Rattle.hpack_codec.proofs.ConnectionLemmas.{tells_bad, tells_long}
use Rattle.hpack_codec.proofs.decoder.Decoder.decode.Goals as goal

pub returns-clause-bad : goal.returns-clause-bad
returns-clause-bad c offset fresh =
    tells_bad _ _ _ _ _ _ fresh c.decode_next.ensures offset (c.bad_exactly_where_no_representation_begins.ensures _ _ offset)

pub returns-clause-too_long : goal.returns-clause-too_long
returns-clause-too_long c fresh =
    tells_long _ _ _ _ _ _ fresh c.decode_next.ensures (c.too_long_exactly_where_the_list_passes_the_limit.ensures _ _)

pub returns-clause-stands : goal.returns-clause-stands
returns-clause-stands c t blocks stands =
    c.decoders_stand_for_their_blocks.ensures.stands t _ _ blocks _ _ _ stands c.decode_next.ensures

pub returns-clause-answers : goal.returns-clause-answers
returns-clause-answers c t blocks stands =
    c.decoders_stand_for_their_blocks.ensures.answers t _ _ blocks _ _ _ stands c.decode_next.ensures
