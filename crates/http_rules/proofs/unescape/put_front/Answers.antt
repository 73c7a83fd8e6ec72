use Rattle.std.proofs.Common.{◌≡◌, ◌++◌, ◌∷◌, [], take, drop, get_or, true, false, Some, None}
use Rattle.http_rules.specs.PercentDecoding.{begins_slash_escape, first_escape}
use Rattle.http_rules.proofs.DecodingLemmas.{slash_front, escape_front, plain_front, goes_on}
use Rattle.http_rules.proofs.unescape.put_front.Goals as goal

pub returns-then-has_slash_escape-clause-text : goal.returns-then-has_slash_escape-clause-text
returns-then-has_slash_escape-clause-text c =
    let text = c.args.text.now in
    let pushed : c.extend_from_slice.new.self.items ≡ c.args.out.now.items ++ take 3 text = cc (c.in_ok-extend_from_slice.ensures.items, c.split_at.ensures.front) in
    let slash : begins_slash_escape text ≡ true = cc (c.if-has_slash_escape.true, c.has_slash_escape.ensures) in
    goes_on c.args.out.now.items c.extend_from_slice.new.self.items (take 3 text) c.split_at.result.1.now (drop 3 text) text pushed c.split_at.ensures.back (slash_front text slash)

pub returns-in_ok-push-in-Some-clause-text : goal.returns-in_ok-push-in-Some-clause-text
returns-in_ok-push-in-Some-clause-text c =
    let text = c.args.text.now in
    let byte = c.in-Some.byte in
    let slash : begins_slash_escape text ≡ false = cc (c.if-has_slash_escape.false, c.has_slash_escape.ensures) in
    let escape : first_escape text ≡ Some byte = cc (c.in-Some.is, c.front_escape.ensures) in
    let pushed : c.push.new.self.items ≡ c.args.out.now.items ++ byte ∷ [] = cc (c.in_ok-push-in-Some.ensures.items) in
    goes_on c.args.out.now.items c.push.new.self.items (byte ∷ []) c.split_at-in-Some.result.1.now (drop 3 text) text pushed c.split_at-in-Some.ensures.back (escape_front text byte slash escape)

pub returns-in_ok-push-in-None-clause-text : goal.returns-in_ok-push-in-None-clause-text
returns-in_ok-push-in-None-clause-text c =
    let text = c.args.text.now in
    let byte = get_or text 0 0 in
    let slash : begins_slash_escape text ≡ false = cc (c.if-has_slash_escape.false, c.has_slash_escape.ensures) in
    let none : first_escape text ≡ None = cc (c.in-None.is, c.front_escape.ensures) in
    let pushed : c.push-in-None.new.self.items ≡ c.args.out.now.items ++ byte ∷ [] = cc (c.in_ok-push-in-None.ensures.items) in
    goes_on c.args.out.now.items c.push-in-None.new.self.items (byte ∷ []) c.split_at-in-None.result.1.now (drop 1 text) text pushed c.split_at-in-None.ensures.back (plain_front text none slash c.requires)
