use Rattle.std.proofs.Common.{◌≡◌, ◌∙◌, ◌++◌, ◌∷◌, [], Option, Some, None, ap, sym, option_copied, rules}
use Rattle.form_urlencoded.specs.Form.{dot}
use Rattle.query_parameters.specs.QueryParameters.{pieces_left}
use Rattle.query_settings.proofs.Names.{through_none, through_some}
use Rattle.query_settings.specs.QueryTargets.{named}
use Rattle.query_settings.proofs.targets.target_of.Goals as goal

pub returns-in_default-passes : goal.returns-in_default-passes
returns-in_default-passes c =
    sym (through_none c.args.types.now c.loop-left.inner c.loop-left.steps c.in-Some.names.now c.first_piece.result.0.now
    c.in-Some-field_by_key.field.now (sym c.field_by_key.ensures ∙ ap option_copied c.in-Some-field_by_key.is)
    c.first_piece.result.1 c.first_piece.ensures.pieces (search rules) (search rules))
    ∙ ap (λ left. named c.args.types.now c.loop-left.inner c.loop-left.steps (pieces_left dot left)) (sym c.in-Some.is)
    ∙ c.loop-left.invariant

pub loop-left-preserved : goal.loop-left-preserved
loop-left-preserved c =
    ap (λ way. named c.args.types.now c.in-Some-passes.next way (pieces_left dot c.first_piece.result.1))
    (c.in_ok-push.ensures.ok ∙ ap (λ s. c.loop-left.steps ++ s ∷ []) c.step_of.ensures)
    ∙ sym (through_some c.args.types.now c.loop-left.inner c.loop-left.steps c.in-Some.names.now
    c.first_piece.result.0.now c.in-Some-field_by_key.field.now
    (sym c.field_by_key.ensures ∙ ap option_copied c.in-Some-field_by_key.is) c.first_piece.result.1
    c.first_piece.ensures.pieces (search rules) c.in-Some-passes.next (search rules))
    ∙ ap (λ left. named c.args.types.now c.loop-left.inner c.loop-left.steps (pieces_left dot left)) (sym c.in-Some.is)
    ∙ c.loop-left.invariant
