use Rattle.std.proofs.Common.{◌≡◌, ◌++◌, ℕ, List, length}
use Rattle.grpc_frames.specs.LengthPrefixed.{deframed_of}
use Rattle.grpc_frames.specs.Deframer.{Stands}
use Rattle.grpc_frames.proofs.whole_stream.feed_all.Given as goal

abbrev pub invariant-feeding : goal.invariant-feeding
invariant-feeding l = record {
  limit : l.deframer.limit ≡ l.initial.deframer.limit;
  taken : List ℕ;
  piece : taken ++ l.rest ≡ l.piece;
  stands : (r : List ℕ) → Stands l.initial.deframer r → (deframed_of l.initial.deframer.limit r).messages ≡ l.initial.out
      → Stands l.deframer (r ++ taken) × ((deframed_of l.initial.deframer.limit (r ++ taken)).messages ≡ l.out);
  seen : (r : List ℕ) → Stands l.initial.deframer r → Stands l.deframer (r ++ taken);
}

abbrev pub decreases-feeding : goal.decreases-feeding
decreases-feeding l = length l.rest
