use Rattle.path_router.proofs.EmptyLemmas.{no_slash_last, no_two_slashes}
use Rattle.path_router.proofs.laws.no_segment_is_empty.Goals as goal

pub returns : goal.returns
returns c = record { inside = no_two_slashes; last = no_slash_last }
