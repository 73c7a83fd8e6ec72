use Rattle.std.proofs.Common.{ap, sym, ◌∙◌, drop, ◌+◌}
use Rattle.std.specs.Option.{is_some}
use Rattle.hpack_codec.specs.Huffman.{bits_of, text_from}
use Rattle.hpack_codec.specs.HuffmanStates.{state_of}
use Rattle.hpack_codec.proofs.HuffmanText.{byte_at, some_after, no_text_first, no_text_second}
use Rattle.hpack_codec.proofs.huffman.is_text_from.Goals as goal
use Rattle.hpack_codec.proofs.huffman.is_text_from.Goals.{then-first-eq257-via-then-first-eq257, then-first-eq257-via-else-first-eq257+then-second-eq257}

pub returns-then-first-eq257 : goal.returns-then-first-eq257
returns-then-first-eq257 c =
    let e = byte_at c.loop-byte.state c.loop-byte.byte-index _ _ _ c.args.coded.now c.loop-byte-test.true c.byte_step-first.ensures in
    elim c.then-first-eq257.branch [
      | then-first-eq257-via-then-first-eq257 w ↦ sym (c.loop-byte.invariant ∙ ap is_some (e ∙ no_text_first _ _ w.if-first-eq257.true))
      | then-first-eq257-via-else-first-eq257+then-second-eq257 w ↦ sym (c.loop-byte.invariant ∙ ap is_some (e ∙ no_text_second c.byte_step-first.result.0 _ (text_from (state_of c.byte_step-first.result.2) (bits_of (drop (c.loop-byte.byte-index + 1) c.args.coded.now))) w.if-second-eq257.true))
    ]

pub loop-byte-preserved : goal.loop-byte-preserved
loop-byte-preserved c =
    c.loop-byte.invariant
    ∙ (ap is_some (byte_at c.loop-byte.state c.loop-byte.byte-index _ _ _ c.args.coded.now c.loop-byte-test.true c.byte_step-first.ensures)
    ∙ some_after _ _ _ c.if-first-eq257.false c.if-second-eq257.false)
