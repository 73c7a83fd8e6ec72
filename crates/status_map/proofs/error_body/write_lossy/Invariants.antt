use Rattle.std.specs.Str.Chunks.{utf8_chunks_rest}
use Rattle.std.specs.Str.Lossy.{utf8_lossy}
use Rattle.status_map.proofs.BodyLemmas.{IsMade}
use Rattle.status_map.proofs.error_body.write_lossy.Given as goal

abbrev pub invariant-loop-chunk : goal.invariant-loop-chunk
invariant-loop-chunk l = IsMade l.initial.out.items l.out.items (utf8_chunks_rest l.chunk-iterator) (utf8_lossy l.fn.text)
