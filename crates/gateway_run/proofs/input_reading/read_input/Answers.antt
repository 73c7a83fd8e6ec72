use Rattle.std.proofs.Common.{◌++◌, [], ap, sym, append-nil, take, length-append, arith}
use Rattle.std.proofs.lemmas.List.{length-take}
use Rattle.gateway_run.proofs.InputLemmas.{end_splits, full, goes_on, lost, whole}
use Rattle.gateway_run.proofs.input_reading.read_input.Goals as goal

pub returns-in_err-extend_from_slice-in-Bytes-clause-left :
    goal.returns-in_err-extend_from_slice-in-Bytes-clause-left
returns-in_err-extend_from_slice-in-Bytes-clause-left g c =
    let bytes = c.loop-piece.bytes.items in
    let n = c.in-Bytes.n in
    let into = c.read.new.into in
    let room = length-take c.room_behind-room.result c.loop-piece.piece in
    let size = length-append bytes (take n into) in
    let taken = length-take n into in
    lost _ _ (bytes ++ take n into)
    (omega (arith, size, taken, c.in-Bytes.ensures.bound.0, c.read.auto.into, c.room_behind-room.ensures.within, c.len_of-in-loop-piece.ensures, room))
    (goes_on _ _ _ bytes (bytes ++ take n into) into [] n c.read.result c.loop-piece.invariant.splits c.read.ensures.bytes c.in-Bytes.is c.in-Bytes.ensures.bound.0 (ap (λ z. bytes ++ take n z) (sym (append-nil into))))

pub returns-in-End-clause-gives : goal.returns-in-End-clause-gives
returns-in-End-clause-gives g c =
    let room = length-take c.room_behind-room.result c.loop-piece.piece in
    whole _ _ c.loop-piece.bytes.items c.loop-piece.invariant.within
    (end_splits _ _ _ c.loop-piece.bytes.items c.read.new.into c.read.result c.loop-piece.invariant.splits c.read.ensures.bytes c.in-End.is (omega (arith, c.read.auto.into, c.room_behind-room.ensures.some, room)))

pub returns-clause-gives : goal.returns-clause-gives
returns-clause-gives g c =
    full _ _ c.loop-piece.bytes.items (omega (arith, c.loop-piece.invariant.within, c.loop-piece-test.false, c.len_of.ensures)) c.loop-piece.invariant.splits
