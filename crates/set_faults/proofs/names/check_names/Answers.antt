use Rattle.std.proofs.Common.{◌≡◌, ◌∷◌, [], ◌+◌, List, true, false, map, take, drop, sym, subst, ◌∙◌}
use Rattle.std.specs.List.{list_any}
use Rattle.descriptor_pool.specs.DeclaredNames.{Declaration, name_of}
use Rattle.set_faults.specs.LinkFaults.{IsFirst}
use Rattle.set_faults.specs.NameFaults.{doubled, has_name_of, is_file_named, is_named}
use Rattle.descriptor_pool.specs.NameOrder.{has_name}
use Rattle.set_faults.specs.declared.fault.LinkFault.{LinkFault}
use Rattle.set_faults.specs.declared.fault.LinkFault.TheVariants.{At}
use Rattle.set_faults.specs.declared.fault.LinkKind.TheVariants.{DoubleName}
use Rattle.set_faults.proofs.NameLemmas.{doubled_here, doubled_past, known_is, known_more}
use Rattle.set_faults.proofs.names.check_names.Goals as goal

abbrev faults_of : List Declaration → List LinkFault
faults_of ds = map (λ d. At DoubleName (name_of d) []) ds

pub returns-then-branch : goal.returns-then-branch
returns-then-branch c =
    let ds = c.args.declarations.now in
    let i = c.loop-declaration.declaration-index in
    let x = c.declaration-item.result in
    let held = c.loop-declaration.invariant in
    let hit : list_any (has_name_of x) (take i ds) ≡ true =
    sym (known_is (has_name c.loop-declaration.files) (has_name c.loop-declaration.names) (take i ds) held.files held.names x)
    ∙ sym c.in_ok-came_before.ensures.value ∙ c.if-branch.true in
    let after = doubled (take (i + 1) ds) (drop (i + 1) ds) in
    let first : doubled [] ds ≡ x ∷ after = sym held.rest ∙ doubled_here ds i x c.loop-declaration-test.true c.declaration-item.is hit in
    subst (λ z. IsFirst c.fault_of.result (faults_of z)) (sym first)
    (subst (λ n. IsFirst c.fault_of.result (At DoubleName n [] ∷ faults_of after)) c.name.ensures (c.fault_of.ensures (faults_of after)))

pub loop-declaration-preserved : goal.loop-declaration-preserved
loop-declaration-preserved c =
    let ds = c.args.declarations.now in
    let i = c.loop-declaration.declaration-index in
    let x = c.declaration-item.result in
    let held = c.loop-declaration.invariant in
    let lt = c.loop-declaration-test.true in
    let is = c.declaration-item.is in
    let miss : list_any (has_name_of x) (take i ds) ≡ false =
    sym (known_is (has_name c.loop-declaration.files) (has_name c.loop-declaration.names) (take i ds) held.files held.names x)
    ∙ sym c.in_ok-came_before.ensures.value ∙ c.if-branch.false in
    record {
      rest = doubled_past ds i x lt is miss ∙ held.rest;
      files = known_more is_file_named (has_name c.loop-declaration.files) (has_name c.came_before.new.files) ds i x lt is held.files c.in_ok-came_before.ensures.files;
      names = known_more is_named (has_name c.loop-declaration.names) (has_name c.came_before.new.names) ds i x lt is held.names c.in_ok-came_before.ensures.names;
    }
