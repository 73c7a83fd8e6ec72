use Rattle.std.proofs.Common.{◌≡◌, ◌++◌, drop}
use Rattle.std.specs.List.{flat_map}
use Rattle.descriptors.specs.declared.file_set.RpcInfo.{RpcInfo}
use Rattle.descriptor_pool.specs.SetMethods.{grpc_path, with_rule}
use Rattle.descriptor_pool.proofs.set_methods.put_service.Given as goal

abbrev pub invariant-loop-rpc : goal.invariant-loop-rpc
invariant-loop-rpc l = l.out.items ++ flat_map (λ (m : RpcInfo). with_rule (grpc_path l.scope l.service.name m.name) m m.http) (drop l.rpc-index l.rpc-items) ≡ l.initial.out.items ++ flat_map (λ (m : RpcInfo). with_rule (grpc_path l.scope l.service.name m.name) m m.http) l.rpc-items
