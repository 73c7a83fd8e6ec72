use Rattle.std.proofs.Common.{◌≡◌, ◌≤◌, ℕ, List, length, take}
use Rattle.std.specs.List.{AllByRecursion}
use Rattle.path_router.specs.PathSegments.{IsUncut}
use Rattle.http_rules.specs.TemplateMatch.{slashed}
use Rattle.path_router.proofs.pieces.offset_behind.Given as goal

abbrev pub invariant-loop : goal.invariant-loop
invariant-loop l = record {
  within : l.at ≤ length l.path;
  there : (pieces : List (List ℕ)) → AllByRecursion IsUncut pieces → l.path ≡ slashed pieces → l.count ≤ length pieces
      → l.at ≡ length (slashed (take l.counter pieces));
}
