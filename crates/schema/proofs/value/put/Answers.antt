use Rattle.std.proofs.Common.{◌≡◌, Ok}
use Rattle.schema.specs.SlotSearch.{search_in}
use Rattle.schema.proofs.SearchLemmas.{found_below}
use Rattle.schema.proofs.value.put.Goals as goal

pub set-requires : goal.set-requires
set-requires c =
    let found : Ok c.in-Ok.at ≡ search_in c.args.fields.now c.args.number = cc (c.in-Ok.ensures, c.as_slice.ensures) in
    found_below _ _ _ c.args.slot found
