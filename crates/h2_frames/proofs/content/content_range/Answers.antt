-- At most what is left of the content, behind what stands before it.
use Rattle.std.proofs.Common.{◌≡◌, ◌+◌, ◌-◌, min, arith}
use Rattle.h2_frames.proofs.ContentLemmas.{range_is}
use Rattle.h2_frames.proofs.content.content_range.Goals as goal

pub returns-clause-content : goal.returns-clause-content
returns-clause-content c = λ bytes l.
    let from : c.min-from.result ≡ min (c.args.before - c.args.offset) c.args.n =
    omega (arith, c.min-from.ensures, c.saturating_sub-skipped.ensures) in
    let to : c.min-from.result + c.min-most.result
    ≡ c.min-from.result + min (c.args.size - (c.args.offset - c.args.before)) (c.args.n - c.min-from.result) =
    omega (arith, c.min-most.ensures, c.saturating_sub-left.ensures, c.saturating_sub-past.ensures) in
    range_is (c.args.before - c.args.offset) (c.args.size - (c.args.offset - c.args.before)) c.args.n
    c.min-from.result (c.min-from.result + c.min-most.result) bytes l from to
