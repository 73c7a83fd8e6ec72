use Rattle.h2_frames.proofs.DecidedLemmas.{judge_decides, ten_decide}
use Rattle.h2_frames.proofs.laws.rules_are_decided.Goals as goal

pub returns-clause-whole : goal.returns-clause-whole
returns-clause-whole c = judge_decides

pub returns-clause-ten : goal.returns-clause-ten
returns-clause-ten c = ten_decide
