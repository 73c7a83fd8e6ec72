use Rattle.wire_format.proofs.validity.DecodedIsValid.{decoded_valid}
use Rattle.wire_format.proofs.laws.decoded_values_are_valid.Goals as goal

pub returns : goal.returns
returns c types id bytes v sound b h = decoded_valid types sound id bytes v b h
