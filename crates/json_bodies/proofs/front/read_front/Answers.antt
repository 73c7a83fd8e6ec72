use Rattle.json_meanings.specs.KnownReadings.{schema_of}
use Rattle.json_bodies.proofs.FrontLemmas.{exact_front}
use Rattle.json_bodies.proofs.front.read_front.Goals as goal

pub returns-clause-exact : goal.returns-clause-exact
returns-clause-exact c = λ some.
    let d = schema_of c.args.types.now in
    exact_front d c.args.id c.args.part c.args.place c.args.bytes.now _
    (c.one_front_fault.ensures d c.args.id c.args.part c.args.place c.args.bytes.now) c.take_front.ensures some
