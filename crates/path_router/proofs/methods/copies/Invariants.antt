use Rattle.std.proofs.Common.{◌≡◌, map, take}
use Rattle.path_router.proofs.methods.copies.Given as goal

abbrev pub invariant-loop-text : goal.invariant-loop-text
invariant-loop-text l = l.copies ≡ map (λ m. m.now) (take l.text-index l.texts)
