use Rattle.std.proofs.Common.{◌∙◌, ap, subst, sym}
use Rattle.std.proofs.lemmas.Result.{on_ok_weaker}
use Rattle.schema.specs.Value.{slot_in, RiseFrom}
use Rattle.schema.proofs.Theorems.{slot_in-with_slot, RiseFrom-with_slot}
use Rattle.schema.proofs.value.Value.set.Goals as goal

pub returns-clause-slots : goal.returns-clause-slots
returns-clause-slots c =
    on_ok_weaker c.put.result (λ e q. ap (λ es. slot_in es q) e ∙ slot_in-with_slot c.args.self.now.fields c.args.number c.args.slot q) c.put.ensures.ok

pub returns-clause-rising : goal.returns-clause-rising
returns-clause-rising c =
    on_ok_weaker c.put.result (λ e above rise. subst (RiseFrom 0) (sym e) (RiseFrom-with_slot c.args.self.now.fields 0 c.args.number c.args.slot above rise)) c.put.ensures.ok
