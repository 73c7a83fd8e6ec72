use Rattle.std.proofs.Common.{◌++◌, ◌-◌, ◌∙◌, List, ℕ, ap, sym, append_assoc}
use Rattle.hpack_codec.proofs.RangeLemmas.{range, in_parts}
use Rattle.hpack_codec.proofs.field_starts.append_range.Goals as goal

pub returns-clause-items : goal.returns-clause-items
returns-clause-items c =
    let front = range c.min-from.result c.min-to.result c.as_slices.result.0.now in
    let back = range (c.args.start - c.min-from.result) (c.args.end - c.min-to.result) c.as_slices.result.1.now in
    let parts = in_parts c.as_slices.result.0.now c.as_slices.result.1.now c.args.ring.now.items c.args.start c.args.end c.min-from.result c.min-to.result
    c.as_slices.ensures c.requires.ordered c.min-from.ensures c.min-to.ensures in
    c.append_within-2.ensures.items
    ∙ (ap (λ (xs : List ℕ). xs ++ back) c.append_within.ensures.items
    ∙ (append_assoc c.args.out.now.items front back
    ∙ ap (λ (xs : List ℕ). c.args.out.now.items ++ xs) (sym parts)))
