use Rattle.std.proofs.Common.{◌∙◌, ◌+◌, ap, sym, arith}
use Rattle.base.proofs.PowerLemmas.{len_more, len_last, len_none, shrinks}
use Rattle.base.proofs.base128.+groups_len.Goals as goal

pub returns-then-left-eq0-clause-len : goal.returns-then-left-eq0-clause-len
returns-then-left-eq0-clause-len t c = sym (len_none c.args.left c.args.n c.if-left-eq0.true)

pub returns-then-n-lt128-clause-len : goal.returns-then-n-lt128-clause-len
returns-then-n-lt128-clause-len t c = sym (len_last c.args.left c.args.n (omega arith) c.if-n-lt128.true)

pub groups_len-requires : goal.groups_len-requires
groups_len-requires t c = (omega arith, (omega arith, shrinks c.args.left c.args.n (omega arith) c.requires.fits))

pub returns-clause-len : goal.returns-clause-len
returns-clause-len t c = ap (λ x. x + 1) c.groups_len.ensures.len ∙ sym (len_more c.args.left c.args.n (omega arith) c.if-n-lt128.false)
