-- What is made of the bytes so far goes on with each chunk.
use Rattle.std.proofs.Common.{ap, ◌∙◌}
use Rattle.std.specs.Str.Chunks.{utf8_chunks_rest}
use Rattle.status_map.proofs.BodyLemmas.{nothing_made, chunk_made, all_made}
use Rattle.status_map.proofs.error_body.write_lossy.Goals as goal

pub loop-chunk-init : goal.loop-chunk-init
loop-chunk-init c = nothing_made _ _ _ (ap utf8_chunks_rest c.into_iter-chunk-iterator.ensures.into_iter_gives ∙ c.utf8_chunks-chunk-items.ensures.rest)

pub loop-chunk-preserved : goal.loop-chunk-preserved
loop-chunk-preserved c =
    let steps = c.in-Some.ensures.steps in
    let text = rw c.valid.ensures at c.valid.utf8 in
    rw (c.in_ok-write_chunk.ensures.ok, c.valid.ensures, c.invalid.ensures) (chunk_made _ _ _ _ _ _ _ c.loop-chunk.invariant text steps.0 steps.3.0 steps.3.1 steps.2)

pub returns-clause-ok : goal.returns-clause-ok
returns-clause-ok c = (all_made _ _ _ _ c.loop-chunk.invariant c.in-None.ensures.steps.0).0

pub returns-clause-utf8 : goal.returns-clause-utf8
returns-clause-utf8 c = (all_made _ _ _ _ c.loop-chunk.invariant c.in-None.ensures.steps.0).1
