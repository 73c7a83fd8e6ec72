use Rattle.std.proofs.Common.{◌∙◌, ◌++◌, ◌∷◌, [], ◌≤◌, ap, arith, length, length-append}
use Rattle.hpack_codec.proofs.TableLemmas.{keep_fits}
use Rattle.circular_buffer.specs.Buffer.{Buffer}
use Rattle.hpack_codec.specs.declared.dynamic_table.FieldLengths.{FieldLengths}
use Rattle.hpack_codec.proofs.dynamic_table.push_lengths.Goals as goal

pub returns-clause-items : goal.returns-clause-items
returns-clause-items c =
    let l : length (c.args.ring.now.items ++ c.args.lengths ∷ []) ≤ c.args.ring.now.capacity = rw length-append (omega arith) in
    ap (λ (b : Buffer FieldLengths). b.items) c.push_back.ensures.items ∙ keep_fits c.args.ring.now.capacity (c.args.ring.now.items ++ c.args.lengths ∷ []) l
