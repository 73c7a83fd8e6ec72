use Rattle.path_router.proofs.PlaceLemmas.{place_told}
use Rattle.path_router.proofs.methods.place_of.Goals as goal

pub returns : goal.returns
returns c =
    let p = place_told c.args.methods.now c.args.method.now c.binary_search.result c.requires
    c.binary_search.ensures.bound c.binary_search.ensures.position in
    record { found = p.found; absent = p.absent; put = p.put }
