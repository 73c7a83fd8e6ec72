use Rattle.std.proofs.Common.{◌≡◌, take}
use Rattle.grpc_frames.specs.LengthPrefixed.{deframed_of}
use Rattle.grpc_frames.specs.Deframer.{Stands}
use Rattle.std.specs.List.{concat}
use Rattle.grpc_frames.proofs.whole_stream.deframe_all.Given as goal

abbrev pub invariant-loop-piece : goal.invariant-loop-piece
invariant-loop-piece l = record {
  limit : l.deframer.limit ≡ l.limit;
  stands : Stands l.deframer (concat (take l.piece-index l.pieces));
  told : (deframed_of l.limit (concat (take l.piece-index l.pieces))).messages ≡ l.out;
}
