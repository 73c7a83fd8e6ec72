use Rattle.std.proofs.Common.{◌≡◌, ◌++◌, drop}
use Rattle.descriptor_pool.specs.DeclaredNames.{extensions_in}
use Rattle.descriptor_pool.proofs.declared_names.put_extensions.Given as goal

abbrev pub invariant-loop-extension : goal.invariant-loop-extension
invariant-loop-extension l = l.out.items ++ extensions_in (drop l.extension-index l.extensions) ≡ l.initial.out.items ++ extensions_in l.extensions
