use Rattle.std.proofs.Common.{◌∙◌, ap, subst, sym}
use Rattle.std.proofs.lemmas.Result.{on_ok_weaker}
use Rattle.schema.specs.Pairs.{item_at, KeysRise}
use Rattle.schema.proofs.ItemLemmas.{item_at-with_item, KeysRise-with_item}
use Rattle.schema.proofs.value.Pairs.put.Goals as goal

pub returns-clause-items : goal.returns-clause-items
returns-clause-items c =
    on_ok_weaker c.put_entry.result (λ e k. ap (λ es. item_at es k) e ∙ item_at-with_item c.args.self.now.entries c.args.key c.args.item k) c.put_entry.ensures.ok

pub returns-clause-rising : goal.returns-clause-rising
returns-clause-rising c =
    on_ok_weaker c.put_entry.result (λ e rise. subst KeysRise (sym e) (KeysRise-with_item c.args.self.now.entries c.args.key c.args.item rise)) c.put_entry.ensures.ok
