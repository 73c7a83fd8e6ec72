use Rattle.std.proofs.Common.{◌≡◌, ◌≤◌, ◌-◌, length, drop, vec_capacity}
use Rattle.hpack_codec.specs.HeaderBlock.{header_block}
use Rattle.hpack_codec.proofs.BlockReadLemmas.{so_far}
use Rattle.hpack_codec.proofs.decoder.read_block.Given as goal

abbrev pub invariant-loop-offset : goal.invariant-loop-offset
invariant-loop-offset l = record {
  read : header_block l.fn.table l.block ≡ so_far l.fields l.table l.offset (drop l.offset l.block);
  within : l.offset ≤ length l.block;
  capacity : 65538 ≤ vec_capacity l.scratch;
}

abbrev pub decreases-loop-offset : goal.decreases-loop-offset
decreases-loop-offset l = length l.block - l.offset
