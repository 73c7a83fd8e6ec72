use Rattle.std.proofs.Common.{[], arith}
use Rattle.std.proofs.lemmas.Result.{err_from_is_err_and}
use Rattle.schema.specs.declared.value.Item.TheVariants.{rolls-Text}
use Rattle.mask_texts.specs.MaskTexts.{pieces_of}
use Rattle.mask_texts.proofs.ReadingLemmas.{all_read, ended, failed, fewer, items_behind, moved, taken}
use Rattle.mask_texts.proofs.mask.read_mask.Goals as goal

pub returns-in_err-read_path : goal.returns-in_err-read_path
returns-in_err-read_path c =
    let p = err_from_is_err_and c.from_residual.result c.from_residual.ensures.1 in
    rw (p.1, p.2)
    (failed c.args.text.now c.loop-left.items c.first_piece.result.0.now _ _ c.in_err-read_path.ensures
    (taken c.loop-left.items c.loop-left.left c.in-Some.rest _ _ _ c.in-Some.is c.first_piece.ensures
    c.loop-left.invariant))

pub loop-left-preserved : goal.loop-left-preserved
loop-left-preserved c =
    moved c.loop-left.items c.push.new.self _ c.in_ok-read_path.field-0 c.first_piece.result.0.now _
    (items_behind [] (pieces_of c.args.text.now)) c.in_ok-push.ensures.ok (rolls-Text c.in_ok-read_path.field-0)
    c.in_ok-read_path.ensures
    (taken c.loop-left.items c.loop-left.left c.in-Some.rest _ _ _ c.in-Some.is c.first_piece.ensures
    c.loop-left.invariant)

pub loop-left-smaller : goal.loop-left-smaller
loop-left-smaller c = fewer c.loop-left.left c.in-Some.rest _ _ c.in-Some.is c.first_piece.ensures

pub returns : goal.returns
returns c =
    all_read c.args.text.now c.loop-left.items
    (ended c.loop-left.items c.loop-left.left _ (grind arith) c.loop-left.invariant)
