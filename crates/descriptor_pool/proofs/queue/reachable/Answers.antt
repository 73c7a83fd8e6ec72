use Rattle.std.proofs.Common.{suc, add-one, subst, sym}
use Rattle.descriptor_pool.proofs.QueueLemmas.{IsWorkedOff, worked_off_more}
use Rattle.descriptor_pool.proofs.queue.reachable.Goals as goal

pub loop-at-preserved : goal.loop-at-preserved
loop-at-preserved c =
    let types = c.args.types.now in
    let ms = c.args.methods.now in
    let more = worked_off_more types ms c.loop-at.queue.items c.loop-at.at c.loop-at.invariant.worked in
    record {
      worked =
          subst (λ n. IsWorkedOff types ms c.take_one.new.queue.items n) (sym (add-one c.loop-at.at))
          (subst (λ z. IsWorkedOff types ms z (suc c.loop-at.at)) (sym c.in_ok-take_one.ensures.queue) more);
      sees = c.in_ok-take_one.ensures.seen;
    }
