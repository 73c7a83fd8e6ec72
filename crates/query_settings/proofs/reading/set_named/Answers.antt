use Rattle.std.proofs.Common.{◌≡◌, ◌∙◌, Some, Ok, ap, rules, subst, sym}
use Rattle.form_urlencoded.specs.Form.{decode}
use Rattle.leaf_texts.specs.LeafTexts.{IsLeafText}
use Rattle.query_settings.proofs.Clashes.{no_other}
use Rattle.query_settings.proofs.JudgedNames.{may_be_set}
use Rattle.query_settings.specs.ParameterFaults.{judged, left_by}
use Rattle.query_settings.specs.QuerySettings.{Assignment, targets_of}
use Rattle.query_settings.specs.QueryTargets.{target_of}
use Rattle.schema.specs.declared.value.Item.{out-Item}
use Rattle.query_settings.proofs.reading.set_named.Goals as goal

pub returns : goal.returns
returns c made stands =
    let t = c.in-Some.target in
    let item = c.in_ok-item.item in
    let types = c.args.types.now in
    let b = c.args.binding.now in
    let may : judged types b.paths b.body (targets_of made) (Some t) ≡ Ok t =
    subst (λ u. judged u b.paths b.body (targets_of made) (Some t) ≡ Ok t) c.types.ensures
    (c.in_ok-numbers.ensures made stands).0 in
    let named : left_by b.body (target_of types c.args.input c.args.name.now) ≡ Some t = search rules in
    let text : c.as_slice.result.now ≡ decode c.args.value.now = search rules in
    let a : Assignment = record { target = t; item = item } in (
      a,
      record {
        place = ap (judged types b.paths b.body (targets_of made)) named ∙ may;
        means = subst (λ u. IsLeafText types t.kind u (out-Item item)) text c.in_ok-item.ensures;
      },
      c.in_ok-set.ensures made stands (c.in_ok-numbers.ensures made stands).1
          (no_other t made (may_be_set types b.paths b.body (targets_of made) t t may).free),
    )
