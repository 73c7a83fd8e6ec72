use Rattle.std.proofs.Common.{arith}
use Rattle.wire_format.proofs.decoding.GoodLemmas.{good_within}
use Rattle.wire_format.proofs.decoder.decoded.Goals as goal

pub message_of-requires : goal.message_of-requires
message_of-requires c = (good_within 100 c.args.types.now).good (λ z. absurd (omega (arith, z))) c.fields-fields.result.now 0 c.args.bytes.now c.in_ok-check_message.ensures
