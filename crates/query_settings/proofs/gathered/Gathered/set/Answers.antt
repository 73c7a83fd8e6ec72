use Rattle.std.proofs.Common.{◌≡◌, ◌∙◌, ◌++◌, [], ap, subst, sym}
use Rattle.query_settings.proofs.Choices.{choices_more}
use Rattle.query_settings.proofs.Gather.{settings_more}
use Rattle.query_settings.specs.ParameterFaults.{chooses_other}
use Rattle.query_settings.specs.QuerySettings.{Assignment, settings_of}
use Rattle.query_settings.specs.QuerySteps.{AreMembers, choices_made, with_item}
use Rattle.query_settings.specs.QueryTargets.{choices_from}
use Rattle.query_settings.proofs.gathered.Gathered.set.Goals as goal

pub returns : goal.returns
returns c made stands same free =
    let a : Assignment = record { target = c.args.target.now; item = c.args.item } in
    let shape = c.args.target.now.shape in
    record {
      settings =
          c.in_ok-put_item.ensures.settings
          ∙ ap (λ xs. with_item xs shape c.args.numbers.items c.args.item) stands.settings
          ∙ ap (λ p. with_item (settings_of made) shape p c.args.item) same ∙ sym (settings_more a made);
      places = c.in_ok-put_item.ensures.places;
      members =
          subst (AreMembers c.choose.new.members) (sym (choices_more made a))
          (subst (λ steps. AreMembers c.choose.new.members (choices_made made ++ choices_from [] steps))
          c.as_slice.ensures
          (c.in_ok-choose.ensures (choices_made made) stands.members
          (ap (λ steps. chooses_other (choices_made made) (choices_from [] steps)) c.as_slice.ensures ∙ free)));
    }
