use Rattle.std.proofs.Common.{length, rules, arith}
use Rattle.std.proofs.lemmas.List.Sums.{position_or_len_is}
use Rattle.mask_texts.specs.MaskTexts.{is_comma}
use Rattle.mask_texts.proofs.PieceLemmas.{alone, at_comma}
use Rattle.mask_texts.proofs.pieces.first_piece.Goals as goal

pub returns-in-Some : goal.returns-in-Some
returns-in-Some c =
    let text = c.args.text.now in
    at_comma text c.in-Some.len (search rules)
    (position_or_len_is is_comma text c.in-Some.len 0 (search rules) (search rules) (search rules))

pub returns-in-None : goal.returns-in-None
returns-in-None c =
    let text = c.args.text.now in
    alone text
    (position_or_len_is is_comma text (length text) 0 (omega arith) (search rules) (search rules))
