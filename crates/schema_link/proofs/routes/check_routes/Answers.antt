use Rattle.schema_link.proofs.RouteLemmas.{no_pair, pair_below, pair_first}
use Rattle.schema_link.proofs.routes.check_routes.Goals as goal

pub fault_of-requires-clause-earlier : goal.fault_of-requires-clause-earlier
fault_of-requires-clause-earlier c =
    (pair_below c.args.methods.now c.args.bindings.now c.in-Some.earlier.now c.in-Some.later.now
    (rw c.in-Some.is at c.in_ok-earlier.ensures) c.requires.calls).0

pub fault_of-requires-clause-later : goal.fault_of-requires-clause-later
fault_of-requires-clause-later c =
    (pair_below c.args.methods.now c.args.bindings.now c.in-Some.earlier.now c.in-Some.later.now
    (rw c.in-Some.is at c.in_ok-earlier.ensures) c.requires.calls).1

pub returns-in-Some : goal.returns-in-Some
returns-in-Some c =
    pair_first c.args.methods.now c.args.bindings.now c.in-Some.earlier.now c.in-Some.later.now c.fault_of.result
    (rw c.in-Some.is at c.in_ok-earlier.ensures) c.fault_of.ensures

pub returns-in-None : goal.returns-in-None
returns-in-None c = no_pair c.args.methods.now c.args.bindings.now (rw c.in-None.is at c.in_ok-earlier.ensures)
