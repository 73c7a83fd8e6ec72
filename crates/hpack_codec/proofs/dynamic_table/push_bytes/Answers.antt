use Rattle.std.proofs.Common.{ℕ, ◌∙◌, ◌++◌, ◌≤◌, ap, arith, length, length-append}
use Rattle.hpack_codec.proofs.TableLemmas.{keep_fits}
use Rattle.circular_buffer.specs.Buffer.{Buffer}
use Rattle.hpack_codec.proofs.dynamic_table.push_bytes.Goals as goal

pub returns-clause-items : goal.returns-clause-items
returns-clause-items c =
    let l : length (c.args.ring.now.items ++ c.args.bytes.now) ≤ c.args.ring.now.capacity = rw length-append (omega arith) in
    ap (λ (b : Buffer ℕ). b.items) c.extend_from_slice.ensures ∙ keep_fits c.args.ring.now.capacity (c.args.ring.now.items ++ c.args.bytes.now) l
