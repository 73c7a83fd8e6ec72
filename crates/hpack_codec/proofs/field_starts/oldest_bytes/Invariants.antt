use Rattle.std.proofs.Common.{◌≡◌, take}
use Rattle.hpack_codec.specs.TableRings.{bytes_len}
use Rattle.hpack_codec.proofs.field_starts.oldest_bytes.Given as goal

abbrev pub invariant-loop-older : goal.invariant-loop-older
invariant-loop-older l = l.sum ≡ bytes_len (take l.older l.lengths.items)
