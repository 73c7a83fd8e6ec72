use Rattle.std.proofs.Common.{◌<◌, ◌≡◌, ◌^◌, ◌∙◌, [], length, subst, sym}
use Rattle.descriptor_pool.specs.ReachableTypes.{reachable}
use Rattle.schema_link.specs.LinkSteps.{IsReady}
use Rattle.set_faults.specs.NameFaults.{too_many}
use Rattle.set_faults.specs.SetFaults.{reaching_faults}
use Rattle.schema_link.proofs.SetAnswers.{few_reached, rest_is, set_answer}
use Rattle.schema_link.proofs.linker.link_named.Goals as goal

pub link_types-requires-clause-few : goal.link_types-requires-clause-few
link_types-requires-clause-few c =
    let ds = c.as_slice-declarations.result.now in
    let ms = c.as_slice-methods.result.now in
    let declared = c.as_slice-declarations.ensures.value ∙ c.in_ok-all_declarations.ensures in
    let size = subst (λ z. too_many z ms ≡ []) (sym declared) c.in_ok-check_size.ensures in
    subst (λ t. length (reachable t ms) < 2 ^ 32) (sym c.in_ok-types.ensures)
    (few_reached ds ms size)

pub link_types-requires-clause-ready : goal.link_types-requires-clause-ready
link_types-requires-clause-ready c = λ none.
    let ds = c.as_slice-declarations.result.now in
    let ms = c.as_slice-methods.result.now in
    let declared = c.as_slice-declarations.ensures.value ∙ c.in_ok-all_declarations.ensures in
    let size = subst (λ z. too_many z ms ≡ []) (sym declared) c.in_ok-check_size.ensures in
    let own = subst (λ t. reaching_faults t ms ≡ []) c.in_ok-types.ensures none in
    subst (λ t. IsReady t ms) (sym c.in_ok-types.ensures)
    (c.faultless_sets_are_ready.ensures ds ms
    (rest_is ds ms size c.in_ok-check_names.ensures ∙ own))

pub returns : goal.returns
returns c =
    let ms = c.as_slice-methods.result.now in
    let declared = c.as_slice-declarations.ensures.value ∙ c.in_ok-all_declarations.ensures in
    set_answer c.args.set.now c.as_slice-declarations.result.now ms c.in_ok-types.types c.link_types.result
    declared (c.as_slice-methods.ensures.value ∙ c.in_ok-all_methods.ensures) c.in_ok-types.ensures
    (subst (λ z. too_many z ms ≡ []) (sym declared) c.in_ok-check_size.ensures)
    c.in_ok-check_names.ensures c.link_types.ensures.first c.link_types.ensures.api
