use Rattle.std.proofs.Common.{◌≡◌, ◌+◌, ◌≤◌, length, vec_capacity}
use Rattle.hpack_codec.proofs.HuffmanText.{IsTextSoFar}
use Rattle.hpack_codec.proofs.huffman.put_text.Given as goal

abbrev pub invariant-loop-i : goal.invariant-loop-i
invariant-loop-i l =
    IsTextSoFar l.coded l.fn.out.items l.out.items l.state l.i × (l.end ≡ length l.fn.out.items + l.fn.room) × (length l.out.items ≤ l.end) × (vec_capacity l.fn.out ≤ vec_capacity l.out)
