use Rattle.std.proofs.Common.{◌∙◌, None, Some, ap, refl, sym}
use Rattle.linked_types.specs.LinkedTypes.{linked_enums}
use Rattle.linked_types.proofs.LinkedParts.{types_by_places}
use Rattle.linked_types.proofs.type_linker.types_of.Goals as goal

pub returns-in_default : goal.returns-in_default
returns-in_default c =
    types_by_places c.args.types.now c.args.reached.now c.args.places.now c.in_ok-enum_places.enum_places None
    (linked_enums c.args.types.now c.in_ok-enum_places.enum_places)
    c.requires.places c.in_ok-enum_places.ensures (sym c.in_default.is ∙ c.in_ok-messages.ensures) refl

pub returns-in-Some-2 : goal.returns-in-Some-2
returns-in-Some-2 c =
    types_by_places c.args.types.now c.args.reached.now c.args.places.now c.in_ok-enum_places.enum_places
    (Some c.in-Some.messages) (Some c.in-Some-2.enums)
    c.requires.places c.in_ok-enum_places.ensures (sym c.in-Some.is ∙ c.in_ok-messages.ensures)
    (sym c.in-Some-2.is ∙ c.in_ok-enums.ensures ∙ ap (linked_enums c.args.types.now) c.indexes.ensures)

pub returns : goal.returns
returns c =
    types_by_places c.args.types.now c.args.reached.now c.args.places.now c.in_ok-enum_places.enum_places
    (Some c.in-Some.messages) None
    c.requires.places c.in_ok-enum_places.ensures (sym c.in-Some.is ∙ c.in_ok-messages.ensures)
    (sym c.in-None.is ∙ c.in_ok-enums.ensures ∙ ap (linked_enums c.args.types.now) c.indexes.ensures)
