use Rattle.wire_format.proofs.round_trip.RoundTrip.{round_trip, short_lengths}
use Rattle.wire_format.proofs.laws.canonical_bytes_decode_to_their_value.Goals as goal

pub returns-clause-lengths : goal.returns-clause-lengths
returns-clause-lengths c = λ types id v sound valid l. round_trip types sound id v valid l

pub returns-clause-short : goal.returns-clause-short
returns-clause-short c = λ types id v sound valid l. round_trip types sound id v valid (short_lengths types id v l)
