use Rattle.std.proofs.Common.{◌-◌, ◌≤◌, length, take}
use Rattle.path_router.specs.PathSegments.{IsUncut}
use Rattle.path_router.proofs.pieces.piece_len.Given as goal

abbrev pub invariant-loop-len : goal.invariant-loop-len
invariant-loop-len l = record {
  within : l.len ≤ length l.text;
  uncut : IsUncut (take l.len l.text);
}

abbrev pub decreases-loop-len : goal.decreases-loop-len
decreases-loop-len l = length l.text - l.len
