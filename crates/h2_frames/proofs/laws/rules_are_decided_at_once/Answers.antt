use Rattle.h2_frames.proofs.EarliestLemmas.{begins_at_once, small_at_once, stands_at_once, push_at_once}
use Rattle.h2_frames.proofs.BlockLemmas.{block_at_once}
use Rattle.h2_frames.proofs.SizeLemmas.{size_at_once, padding_at_once}
use Rattle.h2_frames.proofs.laws.rules_are_decided_at_once.Goals as goal

pub returns-clause-settings : goal.returns-clause-settings
returns-clause-settings c = begins_at_once

pub returns-clause-limit : goal.returns-clause-limit
returns-clause-limit c = small_at_once

pub returns-clause-block : goal.returns-clause-block
returns-clause-block c = block_at_once

pub returns-clause-stream : goal.returns-clause-stream
returns-clause-stream c = stands_at_once

pub returns-clause-push : goal.returns-clause-push
returns-clause-push c = push_at_once

pub returns-clause-size : goal.returns-clause-size
returns-clause-size c = size_at_once

pub returns-clause-padding : goal.returns-clause-padding
returns-clause-padding c = padding_at_once
