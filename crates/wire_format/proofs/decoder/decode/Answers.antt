use Rattle.wire_format.proofs.validity.DecodedIsValid.{bytes_below, valid_answer}
use Rattle.wire_format.proofs.decoder.decode.Goals as goal

pub returns-clause-valid : goal.returns-clause-valid
returns-clause-valid c =
    valid_answer c.args.types.now c.args.id c.args.bytes.now c.decoded.result (bytes_below c.args.bytes.now c.type_inv.bytes) c.decoded.ensures
