use Rattle.std.proofs.Common.{◌+◌, ◌-◌, ◌*◌, ◌≤◌, length, take, None}
use Rattle.json_events.specs.ReaderState.{IsReadable}
use Rattle.json_events.specs.ReaderAnswers.{StandsOn, pending_word}
use Rattle.json_events.specs.ProgressSeen.{reading_of}
use Rattle.json_events.proofs.progress.Progress.read.Given as goal

-- what the reader stood for, it stands for with the bytes so far; no token has ended
abbrev pub invariant-bytes : goal.invariant-bytes
invariant-bytes l = record {
  within : l.taken ≤ length l.bytes;
  readable : IsReadable (reading_of l.self);
  stands : StandsOn (reading_of l.fn.self) (reading_of l.self) (take l.taken l.bytes) None;
  pending : pending_word (reading_of l.self).word ≤ 2 * l.taken + pending_word (reading_of l.fn.self).word;
}

abbrev pub decreases-bytes : goal.decreases-bytes
decreases-bytes l = length l.bytes - l.taken
