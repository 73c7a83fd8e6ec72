use Rattle.std.proofs.Common.{◌≡◌, ℕ, List, take}
use Rattle.std.specs.List.{list_any}
use Rattle.std.specs.Str.{bytes_eq}
use Rattle.descriptor_pool.specs.NameOrder.{has_name}
use Rattle.descriptor_pool.proofs.name_index.name_set.Given as goal

abbrev pub invariant-loop-name : goal.invariant-loop-name
invariant-loop-name l = (q : List ℕ) → has_name l.set q ≡ list_any (bytes_eq q) (take l.name-index l.names)
