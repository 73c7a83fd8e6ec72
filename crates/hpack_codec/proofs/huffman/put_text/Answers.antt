use Rattle.std.proofs.Common.{◌∙◌, ◌+◌, arith, drop, refl, length-drop}
use Rattle.hpack_codec.specs.Huffman.{bits_of, text_from}
use Rattle.hpack_codec.specs.HuffmanStates.{state_of}
use Rattle.hpack_codec.proofs.HuffmanText.{byte_at, text_none, text_more_by, no_text, no_text_first, no_text_second, not_spelled, text_over, whole_text, bad_end, goes_on, has_ended, is_rest}
use Rattle.hpack_codec.proofs.huffman.put_text.Goals as goal

pub loop-i-init : goal.loop-i-init
loop-i-init c = (text_none c.args.coded.now c.args.out.now.items, omega arith, omega arith, omega arith)

pub returns-then-not-put_symbol-clause-put : goal.returns-then-not-put_symbol-clause-put
returns-then-not-put_symbol-clause-put c =
    no_text c.args.coded.now c.args.out.now.items c.loop-i.out.items c.loop-i.state c.loop-i.i c.loop-i.invariant.0
    (byte_at c.loop-i.state c.loop-i.i _ _ _ c.args.coded.now c.loop-i-test.true c.byte_step-first.ensures
    ∙ no_text_first _ _ (has_ended _ _ _ refl c.put_symbol.ensures.value c.if-not-put_symbol.true))

pub returns-then-not-put_symbol-2-clause-put : goal.returns-then-not-put_symbol-2-clause-put
returns-then-not-put_symbol-2-clause-put c =
    no_text c.args.coded.now c.args.out.now.items c.loop-i.out.items c.loop-i.state c.loop-i.i c.loop-i.invariant.0
    (byte_at c.loop-i.state c.loop-i.i _ _ _ c.args.coded.now c.loop-i-test.true c.byte_step-first.ensures
    ∙ no_text_second c.byte_step-first.result.0 _ (text_from (state_of c.byte_step-first.result.2) (bits_of (drop (c.loop-i.i + 1) c.args.coded.now))) (has_ended _ _ _ refl c.put_symbol-in-loop-i.ensures.value c.if-not-put_symbol-2.true))

pub loop-i-preserved : goal.loop-i-preserved
loop-i-preserved c = (
  text_more_by c.args.coded.now c.args.out.now.items c.loop-i.out.items c.put_symbol.new.out.items c.put_symbol-in-loop-i.new.out.items c.loop-i.state c.loop-i.i _ _ _
      c.loop-i-test.true c.byte_step-first.ensures
      (goes_on _ _ c.put_symbol.ensures.value c.if-not-put_symbol.false) (goes_on _ _ c.put_symbol-in-loop-i.ensures.value c.if-not-put_symbol-2.false)
      c.put_symbol.ensures.appended c.put_symbol-in-loop-i.ensures.appended c.loop-i.invariant.0,
  omega arith,
  omega arith,
  omega arith,
)

pub returns-then-is_text_from-clause-put : goal.returns-then-is_text_from-clause-put
returns-then-is_text_from-clause-put c =
    text_over c.args.coded.now c.args.out.now.items c.put_symbol-in-loop-i.new.out.items c.byte_step-first.result.2 (c.loop-i.i + 1) c.args.room _
    (text_more_by c.args.coded.now c.args.out.now.items c.loop-i.out.items c.put_symbol.new.out.items c.put_symbol-in-loop-i.new.out.items c.loop-i.state c.loop-i.i _ _ _
    c.loop-i-test.true c.byte_step-first.ensures
    (goes_on _ _ c.put_symbol.ensures.value c.if-not-put_symbol.false) (goes_on _ _ c.put_symbol-in-loop-i.ensures.value c.if-not-put_symbol-2.false)
    c.put_symbol.ensures.appended c.put_symbol-in-loop-i.ensures.appended c.loop-i.invariant.0)
    (is_rest c.byte_step-first.result.2 (c.loop-i.i + 1) _ c.args.coded.now c.is_text_from.ensures) c.if-is_text_from.true (omega arith)

pub returns-else-is_text_from-clause-put : goal.returns-else-is_text_from-clause-put
returns-else-is_text_from-clause-put c =
    not_spelled c.args.coded.now c.args.out.now.items c.put_symbol-in-loop-i.new.out.items c.byte_step-first.result.2 (c.loop-i.i + 1) _
    (text_more_by c.args.coded.now c.args.out.now.items c.loop-i.out.items c.put_symbol.new.out.items c.put_symbol-in-loop-i.new.out.items c.loop-i.state c.loop-i.i _ _ _
    c.loop-i-test.true c.byte_step-first.ensures
    (goes_on _ _ c.put_symbol.ensures.value c.if-not-put_symbol.false) (goes_on _ _ c.put_symbol-in-loop-i.ensures.value c.if-not-put_symbol-2.false)
    c.put_symbol.ensures.appended c.put_symbol-in-loop-i.ensures.appended c.loop-i.invariant.0)
    (is_rest c.byte_step-first.result.2 (c.loop-i.i + 1) _ c.args.coded.now c.is_text_from.ensures) c.if-is_text_from.false

pub returns-then-is_end-clause-put : goal.returns-then-is_end-clause-put
returns-then-is_end-clause-put c = (
  whole_text c.args.coded.now c.args.out.now.items c.loop-i.out.items c.loop-i.state c.loop-i.i _ c.loop-i.invariant.0 (omega arith) c.is_end.ensures c.if-is_end.true,
  rw length-drop (omega arith),
)

pub returns-else-is_end-clause-put : goal.returns-else-is_end-clause-put
returns-else-is_end-clause-put c =
    bad_end c.args.coded.now c.args.out.now.items c.loop-i.out.items c.loop-i.state c.loop-i.i _ c.loop-i.invariant.0 (omega arith) c.is_end.ensures c.if-is_end.false
