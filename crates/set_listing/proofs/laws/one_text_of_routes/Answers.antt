use Rattle.set_listing.proofs.ListingLemmas.{one_routes_text, some_routes_text}
use Rattle.set_listing.proofs.laws.one_text_of_routes.Goals as goal

pub returns : goal.returns
returns c = record { some = some_routes_text; one = one_routes_text }
