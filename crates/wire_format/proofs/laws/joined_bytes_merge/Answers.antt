use Rattle.wire_format.specs.CanonicalBytes.{canonical_bytes}
use Rattle.wire_format.proofs.merging.KeptLemmas.{canonical_keep}
use Rattle.wire_format.proofs.merging.MergedBytes.{merged_bytes}
use Rattle.wire_format.proofs.round_trip.RoundTrip.{round_trip}
use Rattle.wire_format.proofs.laws.joined_bytes_merge.Goals as goal

pub returns-clause-kept : goal.returns-clause-kept
returns-clause-kept c = λ types id a b v w d e keep. merged_bytes types id a b v w d e keep

pub returns-clause-canonical : goal.returns-clause-canonical
returns-clause-canonical c = λ types id bytes v w sound d valid l.
    merged_bytes types id bytes (canonical_bytes types id w) v w d (round_trip types sound id w valid l) (canonical_keep types sound id w valid l)
