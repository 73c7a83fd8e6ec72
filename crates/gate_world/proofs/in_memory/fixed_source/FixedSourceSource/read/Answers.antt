use Rattle.std.proofs.Common.{◌-◌, ◌+◌, take, drop, arith, ◌∙◌, ap}
use Rattle.std.proofs.lemmas.List.{length-take}
use Rattle.gate_world.proofs.PieceLemmas.{piece_taken}
use Rattle.gate_world.proofs.in_memory.fixed_source.FixedSourceSource.read.Goals as goal

pub returns-clause-bytes : goal.returns-clause-bytes
returns-clause-bytes c =
    let at = c.args.self.now.at in
    let n = c.min-n.result in
    piece_taken c.args.self.now.bytes c.copy_from_slice.new.self _ at n
    (c.copy_from_slice.ensures.after ∙ ap (λ xs. take (at + n - at) (drop at xs)) c.as_slice-bytes.ensures)
    (c.copy_from_slice.ensures.len ∙ length-take n c.args.into.now ∙ omega (arith, c.min-n.ensures))
