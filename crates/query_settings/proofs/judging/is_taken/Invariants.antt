use Rattle.std.proofs.Common.{◌≡◌, drop}
use Rattle.std.specs.List.{list_any}
use Rattle.linked_api.specs.LinkedApi.{begins_path}
use Rattle.query_settings.proofs.judging.is_taken.Given as goal

abbrev pub invariant-loop-path : goal.invariant-loop-path
invariant-loop-path l =
    list_any (λ p. begins_path p l.numbers) (drop l.path-index l.paths)
    ≡ list_any (λ p. begins_path p l.numbers) l.paths
