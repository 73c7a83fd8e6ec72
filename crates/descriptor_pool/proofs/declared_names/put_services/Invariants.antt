use Rattle.std.proofs.Common.{◌≡◌, ◌++◌, drop}
use Rattle.descriptor_pool.specs.DeclaredNames.{services_in}
use Rattle.descriptor_pool.proofs.declared_names.put_services.Given as goal

abbrev pub invariant-loop-service : goal.invariant-loop-service
invariant-loop-service l = l.out.items ++ services_in l.scope (drop l.service-index l.services) ≡ l.initial.out.items ++ services_in l.scope l.services
