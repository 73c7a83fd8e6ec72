use Rattle.std.proofs.Common.{◌≡◌, ℕ, List, [], take, drop}
use Rattle.std.specs.List.{list_any}
use Rattle.set_faults.specs.NameFaults.{doubled, is_file_named, is_named}
use Rattle.descriptor_pool.specs.NameOrder.{has_name}
use Rattle.set_faults.proofs.names.check_names.Given as goal

abbrev pub invariant-loop-declaration : goal.invariant-loop-declaration
invariant-loop-declaration l = record {
  rest : doubled (take l.declaration-index l.declarations) (drop l.declaration-index l.declarations) ≡ doubled [] l.declarations;
  files : (q : List ℕ) → has_name l.files q ≡ list_any (is_file_named q) (take l.declaration-index l.declarations);
  names : (q : List ℕ) → has_name l.names q ≡ list_any (is_named q) (take l.declaration-index l.declarations);
}
