use Rattle.transcoding.proofs.EachAnswer.{each_answer}
use Rattle.transcoding.proofs.laws.each_request_is_answered.Goals as goal

pub returns : goal.returns
returns c api method target body linked =
    each_answer c.which_targets_have_paths.ensures.decided c.one_path_of_a_target.ensures c.each_request_has_a_choice.ensures
    c.found_spans_lie_inside.ensures c.each_path_is_bound.ensures c.path_bindings_are_overlays.ensures
    c.every_overlay_has_a_message.ensures c.bindings_are_servable.ensures.servable api linked
    (c.linked_bindings_are_routable.ensures api linked) method target body
