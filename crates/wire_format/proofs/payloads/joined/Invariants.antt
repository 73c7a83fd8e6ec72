use Rattle.std.proofs.Common.{◌≡◌, ◌++◌, drop, map}
use Rattle.std.specs.List.{flat_map}
use Rattle.wire_format.proofs.payloads.joined.Given as goal

abbrev pub invariant-loop-chunk : goal.invariant-loop-chunk
invariant-loop-chunk l = l.bytes.items ++ flat_map (λ q. q) (map (λ b. b.now) (drop l.chunk-index l.rest)) ≡ l.first ++ flat_map (λ q. q) (map (λ b. b.now) l.rest)
