use Rattle.std.proofs.Common.{◌≡◌, ◌++◌, ◌∙◌, refl, sym, arith}
use Rattle.std.proofs.lemmas.Result.{IfOk-at_ok, err_from_is_err_and}
use Rattle.mask_texts.specs.MaskItems.{item_paths}
use Rattle.mask_texts.specs.MaskTexts.{joined_paths}
use Rattle.mask_texts.proofs.ShownMasks.{has_text, no_memory_apart, ok_apart, shown, unprintable}
use Rattle.mask_texts.proofs.mask.show_mask.Goals as goal

pub returns-then-not-are_printable-clause-unprintable : goal.returns-then-not-are_printable-clause-unprintable
returns-then-not-are_printable-clause-unprintable c =
    ((λ _. unprintable c.args.paths.now (grind arith)), (λ _. refl))

pub returns-in_err-cut_back-clause-unprintable : goal.returns-in_err-cut_back-clause-unprintable
returns-in_err-cut_back-clause-unprintable c =
    let p = err_from_is_err_and c.from_residual.result c.from_residual.ensures.1 in (
      (λ e. absurd (no_memory_apart c.from_residual.result p.0 p.1 p.2 e)),
      (λ none. absurd (has_text c.args.paths.now (grind arith) none)),
    )

pub returns-clause-ok : goal.returns-clause-ok
returns-clause-ok c =
    shown c.args.paths.now c.args.out.now.items c.cut_back.new.out.items (grind arith)
    (c.in_ok-cut_back.ensures.ok
    ∙ IfOk-at_ok (λ _. c.put_paths-done.new.out.items ≡ c.args.out.now.items ++ joined_paths (item_paths c.args.paths.now))
    (sym c.in_ok-cut_back.ensures.done) c.put_paths-done.ensures.ok)

pub returns-clause-unprintable : goal.returns-clause-unprintable
returns-clause-unprintable c =
    ((λ e. absurd (ok_apart _ refl e)), (λ none. absurd (has_text c.args.paths.now (grind arith) none)))
