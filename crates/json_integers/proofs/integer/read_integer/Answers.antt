use Rattle.std.proofs.Common.{sym, ap, subst, ◌∙◌, arith}
use Rattle.json_events.specs.JsonNumbers.{AreNumberParts}
use Rattle.json_integers.specs.IntegerTexts.{IsIntegerText}
use Rattle.json_integers.specs.NumberCut.{are_parts}
use Rattle.json_integers.specs.WholeNumbers.{parts_text}
use Rattle.json_integers.proofs.CutLemmas.{parts_are}
use Rattle.json_integers.proofs.AnswerLemmas.{no_number, parts_answer}
use Rattle.json_integers.proofs.integer.read_integer.Goals as goal

pub parts_text-requires : goal.parts_text-requires
parts_text-requires c =
    let e = ap are_parts (sym c.cut-parts.ensures) ∙ sym c.are_parts.ensures ∙ c.if-are_parts.true in
    subst AreNumberParts (sym c.cut-parts.ensures) (parts_are c.args.text.now e)

pub returns-then-are_parts : goal.returns-then-are_parts
returns-then-are_parts c =
    let e = ap are_parts (sym c.cut-parts.ensures) ∙ sym c.are_parts.ensures ∙ c.if-are_parts.true in
    subst (IsIntegerText c.args.text.now) (sym (c.parts_text.ensures ∙ ap parts_text c.cut-parts.ensures)) (parts_answer c.args.text.now e (omega arith))

pub returns-else-are_parts : goal.returns-else-are_parts
returns-else-are_parts c = no_number c.args.text.now (ap are_parts (sym c.cut-parts.ensures) ∙ sym c.are_parts.ensures ∙ c.if-are_parts.false)
