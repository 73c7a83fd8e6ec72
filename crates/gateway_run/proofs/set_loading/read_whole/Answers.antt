use Rattle.std.proofs.Common.{◌++◌, ap, drop, take, length, length-append, arith, ◌∙◌}
use Rattle.std.proofs.lemmas.List.{length-take}
use Rattle.gate_world.specs.ToldFiles.{told_file}
use Rattle.gateway_run.proofs.FrontLemmas.{goes_on, whole, full, was_there}
use Rattle.gateway_run.proofs.set_loading.read_whole.Goals as goal

pub loop-piece-preserved : goal.loop-piece-preserved
loop-piece-preserved g c =
    let room = length-take c.room_behind-room.result c.loop-piece.piece in
    let taken = length-take c.in-Bytes.n (c.read.new.into ++ drop c.room_behind-room.result c.loop-piece.piece) in
    let grown = c.in_ok-extend_from_slice-in-Bytes.ensures.items in
    let size = ap length grown ∙ length-append c.loop-piece.bytes.items (take c.in-Bytes.n (c.read.new.into ++ drop c.room_behind-room.result c.loop-piece.piece)) in
    record {
      later = omega (arith, c.loop-piece.invariant.later, c.read.ensures.cause.later);
      same = c.read.ensures.same ∙ c.loop-piece.invariant.same;
      front = goes_on _ _ c.loop-piece.bytes.items c.extend_from_slice.new.self.items c.read.new.into _ c.in-Bytes.n _ c.read.result (ap (λ z. told_file z c.args.path.now) c.loop-piece.invariant.same) c.loop-piece.invariant.front c.read.ensures.bytes c.in-Bytes.is c.len_of-from.ensures c.in-Bytes.ensures.bound.0 grown;
      missing = λ h. absurd (was_there _ _ c.args.path.now c.read.result c.loop-piece.invariant.same c.read.ensures.missing (λ e. absurd (cc (e, c.in-Bytes.is))) h);
      within = omega (arith, size, c.in-Bytes.ensures.bound.0, c.read.auto.into, c.room_behind-room.ensures.within, c.len_of-from.ensures, room, taken);
    }

pub returns-in-End-clause-gives : goal.returns-in-End-clause-gives
returns-in-End-clause-gives g c =
    let room = length-take c.room_behind-room.result c.loop-piece.piece in
    whole _ _ c.loop-piece.bytes.items c.read.new.into _ c.read.result (ap (λ z. told_file z c.args.path.now) c.loop-piece.invariant.same) c.loop-piece.invariant.front c.read.ensures.bytes c.in-End.is c.len_of-from.ensures
    (omega (arith, c.read.auto.into, c.room_behind-room.ensures.some, room)) c.loop-piece.invariant.within

pub returns-clause-gives : goal.returns-clause-gives
returns-clause-gives g c = full _ c.loop-piece.bytes.items c.loop-piece.invariant.front (omega (arith, c.loop-piece.invariant.within, c.loop-piece-test.false, c.len_of.ensures))
