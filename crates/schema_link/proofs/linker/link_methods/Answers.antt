use Rattle.std.proofs.Common.{◌∙◌, Some, ap, map, subst, sym}
use Rattle.std.proofs.lemmas.Result.{err_from_is_err_and}
use Rattle.set_faults.specs.LinkFaults.{IsFirst}
use Rattle.linked_types.specs.LinkedTypes.{linked_types}
use Rattle.schema_link.specs.SetApi.{linked_method}
use Rattle.schema_link.proofs.SetLemmas.{late_is}
use Rattle.schema_link.proofs.linker.link_methods.Goals as goal

pub returns-in_err-bindings-clause-first : goal.returns-in_err-bindings-clause-first
returns-in_err-bindings-clause-first c =
    let p = err_from_is_err_and c.from_residual-in_err-bindings.result c.from_residual-in_err-bindings.ensures.1 in
    let types = c.args.types.now in
    let ms = c.args.methods.now in
    let linked = ap (linked_types types) (sym c.requires.reached) ∙ c.in_ok-linked.ensures in
    let methods = ap (map (λ m. Some m)) c.as_slice.ensures ∙ c.in_ok-infos.ensures
    ∙ ap (λ js. map (linked_method types js) ms) c.requires.reached in
    rw (p.1, p.2) (subst (IsFirst _) (sym
    (late_is types ms c.in_ok-linked.linked c.as_slice.result.now linked methods)) c.in_err-bindings.ensures.first)

pub returns-clause-first : goal.returns-clause-first
returns-clause-first c =
    let types = c.args.types.now in
    let ms = c.args.methods.now in
    let linked = ap (linked_types types) (sym c.requires.reached) ∙ c.in_ok-linked.ensures in
    let methods = ap (map (λ m. Some m)) c.as_slice.ensures ∙ c.in_ok-infos.ensures
    ∙ ap (λ js. map (linked_method types js) ms) c.requires.reached in
    late_is types ms c.in_ok-linked.linked c.as_slice.result.now linked methods ∙ c.in_ok-bindings.ensures.first
