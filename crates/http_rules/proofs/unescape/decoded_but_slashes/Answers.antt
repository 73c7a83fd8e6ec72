use Rattle.std.proofs.Common.{◌≡◌, length, eqb-true, ◌∙◌, sym}
use Rattle.http_rules.proofs.DecodingLemmas.{at_end}
use Rattle.http_rules.proofs.unescape.decoded_but_slashes.Goals as goal

pub returns : goal.returns
returns c =
    let done : length c.loop-rest.rest.now ≡ 0 = eqb-true _ 0 (sym c.is_empty.ensures ∙ c.loop-rest-test.false) in
    c.from_vec.ensures ∙ at_end c.loop-rest.out.items c.loop-rest.rest.now c.args.text.now c.loop-rest.invariant done
