use Rattle.std.proofs.Common.{sym, subst}
use Rattle.field_index.specs.NumberSets.{IsSetOf}
use Rattle.field_index.proofs.NumberLemmas.{set_more}
use Rattle.field_index.proofs.number_list.NumberList.push.Goals as goal

pub invariant_of-self-in-Ok : goal.invariant_of-self-in-Ok
invariant_of-self-in-Ok c =
    subst (IsSetOf c.insert.new.self) (sym c.in_ok-push.ensures.items)
    (set_more c.self.inside.set c.insert.new.self c.args.number c.self.inside.numbers.items c.in-Ok.ensures.updates
    c.self.invariant)
