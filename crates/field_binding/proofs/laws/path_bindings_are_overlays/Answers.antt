use Rattle.field_binding.proofs.OverlayLemmas.{overlay_of}
use Rattle.field_binding.proofs.laws.path_bindings_are_overlays.Goals as goal

pub returns : goal.returns
returns c api index path spans a linked h =
    overlay_of c.readings_are_scalars.ensures api index path spans a h
    (c.bindings_are_servable.ensures.servable api index h.binding linked h.call.binding_is)
