use Rattle.std.proofs.Common.{◌≡◌, ◌<◌, ◌∷◌, length, take, Some, None, sym, ap, ◌∙◌, subst, arith}
use Rattle.std.proofs.lemmas.List.{length-map}
use Rattle.std.specs.Prelude.{slice_get}
use Rattle.http_rules.specs.Routes.{repeated_routes, route_text}
use Rattle.http_rules.proofs.RepeatLemmas.{Finds, behind_next, earliest_of_text, finds_more, next, repeated_here, repeated_past, shown, text_of_next}
use Rattle.http_rules.proofs.routes.first_repeated_route.Goals as goal

pub returns-in-Some : goal.returns-in-Some
returns-in-Some c =
    let bs = c.args.bindings.now in
    let i = c.loop-i.i in
    let x = c.index-bindings-i.result in
    let held = c.loop-i.invariant in
    let lt : i < length bs = omega (arith, ap length held.texts, length-map bs route_text) in
    let text : c.as_slice.result.now ≡ route_text x =
    c.as_slice.ensures ∙ text_of_next bs i x lt c.index-bindings-i.is _ c.text-item.result held.texts c.text-item.is in
    let found : earliest_of_text (take i bs) c.as_slice.result.now ≡ Some c.in-Some.earlier.now =
    sym (held.first c.as_slice.result.now) ∙ ap shown (sym c.get.ensures.value ∙ sym c.in-Some.ensures) in
    let first : repeated_routes bs ≡ (c.in-Some.earlier.now, x) ∷ behind_next bs i x lt c.index-bindings-i.is =
    sym held.rest ∙ repeated_here bs i x lt c.index-bindings-i.is c.in-Some.earlier.now c.requires
    (subst (λ z. earliest_of_text (take i bs) z ≡ Some c.in-Some.earlier.now) text found) in
    sym (ap (λ z. slice_get z 0) first)

pub loop-i-preserved : goal.loop-i-preserved
loop-i-preserved c =
    let bs = c.args.bindings.now in
    let i = c.loop-i.i in
    let x = c.index-bindings-i.result in
    let held = c.loop-i.invariant in
    let is = c.index-bindings-i.is in
    let lt : i < length bs = omega (arith, ap length held.texts, length-map bs route_text) in
    let text : c.text-item.result ≡ route_text x =
    text_of_next bs i x lt is _ c.text-item.result held.texts c.text-item.is in
    let key : c.as_slice-in-loop-i.result.now ≡ route_text x = c.as_slice-in-loop-i.ensures ∙ text in
    let none : earliest_of_text (take i bs) c.as_slice.result.now ≡ None =
    sym (held.first c.as_slice.result.now) ∙ ap shown (sym c.get.ensures.value ∙ sym c.in_default.ensures) in
    let new : earliest_of_text (take i bs) (route_text x) ≡ None =
    subst (λ z. earliest_of_text (take i bs) z ≡ None) (c.as_slice.ensures ∙ text) none in
    let put = c.as_slice-in-loop-i.result in
    record {
      texts = held.texts;
      rest = repeated_past bs i x lt is c.requires new ∙ held.rest;
      first = subst (Finds c.insert.new.self) (sym (next bs i x lt is))
          (finds_more c.loop-i.first c.insert.new.self (take i bs) put _ held.first key
          (subst (λ z. earliest_of_text (take i bs) z ≡ None) (sym key) new) c.in_ok-insert.ensures.updates);
    }
