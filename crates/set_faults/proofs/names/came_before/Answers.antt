use Rattle.std.proofs.Common.{arith}
use Rattle.descriptor_pool.proofs.Theorems.{has_name_more}
use Rattle.set_faults.proofs.names.came_before.Goals as goal

pub returns-in_ok-insert-in-File-clause-files : goal.returns-in_ok-insert-in-File-clause-files
returns-in_ok-insert-in-File-clause-files c =
    let more = has_name_more c.args.files.now c.insert.new.self c.copy-name.result c.in_ok-insert-in-File.ensures.updates in
    λ q. grind (arith, more q, c.declaration.view_is, c.in-File.is, c.copy-name.ensures)

pub returns-in_ok-insert-in-Message-clause-names : goal.returns-in_ok-insert-in-Message-clause-names
returns-in_ok-insert-in-Message-clause-names c =
    let more = has_name_more c.args.names.now c.insert-in-Message.new.self c.copy-name.result c.in_ok-insert-in-Message.ensures.updates in
    λ q. grind (arith, more q, c.declaration.view_is, c.in-Message.is, c.copy-name.ensures)

pub returns-in_ok-insert-in-Enum-clause-names : goal.returns-in_ok-insert-in-Enum-clause-names
returns-in_ok-insert-in-Enum-clause-names c =
    let more = has_name_more c.args.names.now c.insert-in-Enum.new.self c.copy-name.result c.in_ok-insert-in-Enum.ensures.updates in
    λ q. grind (arith, more q, c.declaration.view_is, c.in-Enum.is, c.copy-name.ensures)

pub returns-in_ok-insert-in-Service-clause-names : goal.returns-in_ok-insert-in-Service-clause-names
returns-in_ok-insert-in-Service-clause-names c =
    let more = has_name_more c.args.names.now c.insert-in-Service.new.self c.copy-name.result c.in_ok-insert-in-Service.ensures.updates in
    λ q. grind (arith, more q, c.declaration.view_is, c.in-Service.is, c.copy-name.ensures)
