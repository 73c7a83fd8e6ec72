use Rattle.std.proofs.Common.{◌≡◌, ◌∙◌, ◌&&◌, ◌||◌, Bool, true, false, [], is_some, sym, ap, refl}
use Rattle.linked_api.specs.FieldPaths.{is_singular}
use Rattle.query_settings.proofs.Clashes.{clash_by_place}
use Rattle.query_settings.specs.ParameterFaults.{chooses_other}
use Rattle.query_settings.specs.QuerySettings.{settings_of}
use Rattle.query_settings.specs.QuerySteps.{choices_made, number_at, place_in}
use Rattle.query_settings.specs.QueryTargets.{choices_from, choices_of, numbers_of}
use Rattle.query_settings.proofs.gathered.Gathered.clashes.Goals as goal

or_true : (s t : Bool) → s ≡ true → true ≡ (s || t)
or_true true t e = refl
or_true false t e = absurd (cc e)

or_false : (s t : Bool) → s ≡ false → t ≡ (s || t)
or_false true t e = absurd (cc e)
or_false false t e = refl

pub returns-then-is_set : goal.returns-then-is_set
returns-then-is_set c made stands same =
    let t = c.args.target.now in
    or_true (is_singular t.shape && is_some (place_in (settings_of made) (numbers_of t.steps)))
    (chooses_other (choices_made made) (choices_of t))
    (ap (λ o. is_singular t.shape && is_some o)
    (ap (λ settings. place_in settings (numbers_of t.steps)) (sym stands.settings)
    ∙ sym (stands.places (numbers_of t.steps)) ∙ ap (number_at c.args.self.now.places) (sym same))
    ∙ sym c.is_set.ensures ∙ c.if-is_set.true)
    ∙ sym (clash_by_place t made)

pub returns : goal.returns
returns c made stands same =
    let t = c.args.target.now in
    c.in_ok-other.ensures (choices_made made) stands.members
    ∙ ap (λ steps. chooses_other (choices_made made) (choices_from [] steps)) c.as_slice.ensures
    ∙ or_false (is_singular t.shape && is_some (place_in (settings_of made) (numbers_of t.steps)))
    (chooses_other (choices_made made) (choices_of t))
    (ap (λ o. is_singular t.shape && is_some o)
    (ap (λ settings. place_in settings (numbers_of t.steps)) (sym stands.settings)
    ∙ sym (stands.places (numbers_of t.steps)) ∙ ap (number_at c.args.self.now.places) (sym same))
    ∙ sym c.is_set.ensures ∙ c.if-is_set.false)
    ∙ sym (clash_by_place t made)
