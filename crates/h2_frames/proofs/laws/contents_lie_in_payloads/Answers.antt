use Rattle.h2_frames.proofs.ContentLemmas.{content_lies, content_is_one, content_grows}
use Rattle.h2_frames.proofs.laws.contents_lie_in_payloads.Goals as goal

pub returns-clause-lies : goal.returns-clause-lies
returns-clause-lies c = content_lies

pub returns-clause-only : goal.returns-clause-only
returns-clause-only c = content_is_one

pub returns-clause-grows : goal.returns-clause-grows
returns-clause-grows c = content_grows
