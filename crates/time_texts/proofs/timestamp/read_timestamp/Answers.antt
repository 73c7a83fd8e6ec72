use Rattle.std.proofs.Common.{sym}
use Rattle.time_texts.proofs.TimestampReads.{no_timestamp, timestamp_read}
use Rattle.time_texts.proofs.timestamp.read_timestamp.Goals as goal

pub returns-in-Some : goal.returns-in-Some
returns-in-Some c =
    timestamp_read c.args.text.now c.in-Some.civil c.moment_of.result (sym c.in-Some.ensures.civil) c.moment_of.ensures

pub returns-in-None : goal.returns-in-None
returns-in-None c = no_timestamp c.args.text.now (sym c.in-None.ensures.civil)
