use Rattle.std.proofs.Common.{◌≡◌, ◌++◌, ◌+◌, ◌*◌, ℕ, List, [], Option, length}
use Rattle.json_events.specs.ReaderAnswers.{pending_word}
use Rattle.message_types.specs.declared.messages.TypeId.{TypeId}
use Rattle.json_bodies.specs.BodySteps.{HasTaken}
use Rattle.json_meanings.specs.KnownReadings.{schema_of}
use Rattle.json_bodies.proofs.whole_message.take_all.Given as goal

abbrev pub invariant-taking : goal.invariant-taking
invariant-taking l = record {
  taken : List ℕ;
  split : taken ++ l.rest ≡ l.bytes;
  told : (id : TypeId) (n : Option ℕ)
      → HasTaken l.initial.reader l.initial.builder (schema_of l.types) id n l.place l.bytes []
      → HasTaken l.reader l.builder (schema_of l.types) id n l.place l.bytes taken;
}

abbrev pub decreases-taking : goal.decreases-taking
decreases-taking l = 2 * length l.rest + pending_word l.reader.reading.word
