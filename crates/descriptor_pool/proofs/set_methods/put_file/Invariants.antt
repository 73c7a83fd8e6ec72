use Rattle.std.proofs.Common.{◌≡◌, ◌++◌, drop}
use Rattle.std.specs.List.{flat_map}
use Rattle.descriptor_pool.specs.SetMethods.{service_methods}
use Rattle.descriptor_pool.proofs.set_methods.put_file.Given as goal

abbrev pub invariant-loop-service : goal.invariant-loop-service
invariant-loop-service l = l.out.items ++ flat_map (service_methods l.file.«package») (drop l.service-index l.service-items) ≡ l.initial.out.items ++ flat_map (service_methods l.file.«package») l.service-items
