use Rattle.std.proofs.Common.{◌≡◌, ◌++◌, ◌∷◌, ap, sym, ◌∙◌, append_assoc, false, chars}
use Rattle.std.proofs.StrCases.{chars_of_empty}
use Rattle.std.proofs.lemmas.List.{append-nil}
use Rattle.std.proofs.lemmas.Str.{IsUtf8-past_char, chars_past_char}
use Rattle.std.specs.Char.{encode_utf8}
use Rattle.std.specs.Str.{encode_utf8_all}
use Rattle.std.specs.Str.Iter.{chars_rest}
use Rattle.descriptor_pool.proofs.CamelLemmas.{camel_other}
use Rattle.descriptor_pool.specs.JsonFieldNames.{camel, cased, camel_name}
use Rattle.descriptor_pool.proofs.json_names.camel_name.Goals as goal

pub loop-c-preserved-then-c-eq95 : goal.loop-c-preserved-then-c-eq95
loop-c-preserved-then-c-eq95 c =
    let held = c.loop-c.invariant in
    let parts = c.in-Some.ensures.steps.0 in
    let step = chars_past_char _ _ c.in-Some.c held.utf8 parts in
    record {
      utf8 = IsUtf8-past_char _ _ c.in-Some.c held.utf8 parts;
      told = rw (step, c.if-c-eq95.true) at held.told;
    }

pub loop-c-preserved : goal.loop-c-preserved
loop-c-preserved c =
    let held = c.loop-c.invariant in
    let parts = c.in-Some.ensures.steps.0 in
    let step = chars_past_char _ _ c.in-Some.c held.utf8 parts in
    let after = c.loop-c.is_after_underscore in
    let rest = camel false (chars (chars_rest c.next.new.self)) in
    let next : c.loop-c.json ++ encode_utf8_all (cased after c.in-Some.c ∷ rest) ≡ camel_name c.args.name.now =
    ap (λ z. c.loop-c.json ++ encode_utf8_all z) (sym (camel_other after c.in-Some.c (chars (chars_rest c.next.new.self)) c.if-c-eq95.false))
    ∙ ap (λ z. c.loop-c.json ++ encode_utf8_all (camel after z)) (sym step) ∙ held.told in
    let pushed : c.push.new.self ≡ c.loop-c.json ++ encode_utf8 (cased after c.in-Some.c) = c.in_ok-push.ensures.ok ∙ ap (λ x. c.loop-c.json ++ encode_utf8 x) c.cased.ensures in
    record {
      utf8 = IsUtf8-past_char _ _ c.in-Some.c held.utf8 parts;
      told = ap (λ z. z ++ encode_utf8_all rest) pushed ∙ append_assoc c.loop-c.json (encode_utf8 (cased after c.in-Some.c)) (encode_utf8_all rest) ∙ next;
    }

pub returns : goal.returns
returns c = sym (append-nil c.loop-c.json) ∙ (rw (chars_of_empty _ c.in-None.ensures.steps.0.0) at c.loop-c.invariant.told)
