use Rattle.known_types.proofs.KnownExampleFacts.{showings_hold, unprintable_hold}
use Rattle.known_types.proofs.examples.known_showings.Goals as goal

pub returns-clause-shown : goal.returns-clause-shown
returns-clause-shown c = showings_hold c.items_keep_their_paths.ensures c.written_masks.ensures.written

pub returns-clause-unprintable : goal.returns-clause-unprintable
returns-clause-unprintable c = unprintable_hold c.items_keep_their_paths.ensures c.written_masks.ensures.unprintable
