use Rattle.json_meanings.specs.KnownReadings.{schema_of}
use Rattle.json_bodies.proofs.BodyLemmas.{exact_answer}
use Rattle.json_bodies.proofs.whole_message.read_body.Goals as goal

pub returns-clause-exact : goal.returns-clause-exact
returns-clause-exact c = λ some.
    let d = schema_of c.args.types.now in
    exact_answer d c.args.id c.args.part c.args.place c.args.bytes.now _
    (c.one_outcome_of_a_text.ensures d c.args.id c.args.part c.args.place c.args.bytes.now) c.read_bytes.ensures some
