use Rattle.std.proofs.Common.{◌≡◌, ◌∙◌, Some}
use Rattle.schema.specs.SlotSearch.{first_in}
use Rattle.schema.proofs.SearchLemmas.{first_remove}
use Rattle.schema.proofs.value.remove.Goals as goal

pub returns-in-Some-clause-fields : goal.returns-in-Some-clause-fields
returns-in-Some-clause-fields c =
    let found : Some c.in-Some.at ≡ first_in c.args.fields.now c.args.number = cc (c.in-Some.ensures, c.as_slice.ensures) in
    c.remove-slot.ensures.rest ∙ first_remove _ _ _ found
