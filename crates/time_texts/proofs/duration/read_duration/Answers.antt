use Rattle.std.proofs.Common.{◌≡◌, true, false, arith}
use Rattle.time_texts.specs.DurationCut.{are_cut_parts}
use Rattle.time_texts.specs.DurationPartsSeen.{duration_parts_seen}
use Rattle.time_texts.proofs.DurationLemmas.{bad_duration, far_duration, good_duration}
use Rattle.time_texts.proofs.duration.read_duration.Goals as goal

pub returns-then-not-are_parts : goal.returns-then-not-are_parts
returns-then-not-are_parts c =
    let e : are_cut_parts (duration_parts_seen c.cut-parts.result) ≡ false = first_of (cc, grind arith) in
    bad_duration c.args.text.now (duration_parts_seen c.cut-parts.result) c.cut-parts.ensures e

pub returns-then-seconds-gt-MAX_DURATION_SECONDS : goal.returns-then-seconds-gt-MAX_DURATION_SECONDS
returns-then-seconds-gt-MAX_DURATION_SECONDS c =
    let e : are_cut_parts (duration_parts_seen c.cut-parts.result) ≡ true = first_of (cc, grind arith) in
    far_duration c.args.text.now (duration_parts_seen c.cut-parts.result) c.capped_value-seconds.result c.cut-parts.ensures e
    c.capped_value-seconds.ensures c.if-seconds-gt-MAX_DURATION_SECONDS.true

pub returns : goal.returns
returns c =
    let e : are_cut_parts (duration_parts_seen c.cut-parts.result) ≡ true = first_of (cc, grind arith) in
    good_duration c.args.text.now (duration_parts_seen c.cut-parts.result) c.capped_value-seconds.result c.moment_of.result
    c.cut-parts.ensures e c.capped_value-seconds.ensures c.if-seconds-gt-MAX_DURATION_SECONDS.false
    (grind arith) (grind arith)
