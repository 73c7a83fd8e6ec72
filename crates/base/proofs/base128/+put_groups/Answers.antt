use Rattle.std.proofs.Common.{◌++◌, ◌∷◌, [], ◌-◌, ◌/◌, ◌%◌, ◌+◌, ◌∙◌, ap, sym, arith, append_assoc}
use Rattle.std.proofs.lemmas.Result.{IfOk-equal}
use Rattle.base.specs.Base128.{groups_of}
use Rattle.base.proofs.PowerLemmas.{shows_more, shows_none}
use Rattle.base.proofs.base128.+put_groups.Goals as goal

pub returns-then-left-eq0-clause-ok : goal.returns-then-left-eq0-clause-ok
returns-then-left-eq0-clause-ok t c = sym (shows_none c.args.out.now.items c.args.left c.args.n c.if-left-eq0.true)

pub returns-clause-ok : goal.returns-clause-ok
returns-clause-ok t c =
    IfOk-equal c.put_groups.result _ _ _ c.put_groups.ensures.ok
    (ap (λ x. x ++ groups_of (c.args.left - 1) (c.args.n / 128)) c.in_ok-push-2.ensures.items
    ∙ append_assoc c.args.out.now.items ((c.args.n % 128 + 128) ∷ []) (groups_of (c.args.left - 1) (c.args.n / 128))
    ∙ ap (λ x. c.args.out.now.items ++ x) (sym (shows_more c.args.left c.args.n (omega arith) c.if-n-lt128.false)))
