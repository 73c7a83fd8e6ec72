use Rattle.known_types.proofs.KnownExampleFacts.{faults_hold, readings_hold}
use Rattle.known_types.proofs.examples.known_readings.Goals as goal

pub returns-clause-read : goal.returns-clause-read
returns-clause-read c =
    readings_hold c.readings_are_computed.ensures.durations c.readings_are_computed.ensures.instants
    c.duration_examples.ensures.read c.timestamp_examples.ensures.read c.read_masks.ensures.read

pub returns-clause-faults : goal.returns-clause-faults
returns-clause-faults c =
    faults_hold c.readings_are_computed.ensures.durations c.readings_are_computed.ensures.instants
    c.duration_examples.ensures.read c.timestamp_examples.ensures.far c.timestamp_examples.ensures.bad
    c.read_masks.ensures.bad
