use Rattle.http1_requests.proofs.ChunkedLaw.{decoded_step, chunked_whole, chunked_read}
use Rattle.http1_requests.proofs.laws.chunks_follow_one_another.Goals as goal

pub returns-clause-next : goal.returns-clause-next
returns-clause-next c = decoded_step

pub returns-clause-whole : goal.returns-clause-whole
returns-clause-whole c = λ bytes d rest. (chunked_whole bytes d rest, chunked_read bytes d rest)
