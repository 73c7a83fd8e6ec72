use Rattle.std.proofs.Common.{◌∙◌, sym, subst}
use Rattle.std.proofs.lemmas.Iterator.{items_from_drains}
use Rattle.std.proofs.lemmas.Iterator.Adapters.{YieldsList-from_vec}
use Rattle.std.proofs.lemmas.List.{map-id}
use Rattle.std.specs.BTreeSet as sorted
use Rattle.std.specs.Cmp.Lexicographic.{slice_cmp}
use Rattle.std.specs.Ordering.{nat_cmp}
use Rattle.set_faults.proofs.CountLemmas.{distinct_texts}
use Rattle.set_faults.proofs.counts.distinct_len.Goals as goal

pub returns : goal.returns
returns c =
    let h = c.in_ok-set.ensures.ran in
    let all = items_from_drains h.1 h.3 (YieldsList-from_vec c.args.texts.items h.2.0 (h.2.1 ∙ c.args.texts.ok.0)) in
    let made = subst (λ l. sorted.IsFromIterResult (λ x y. slice_cmp nat_cmp x.now y.now) l c.in_ok-set.set) (sym (map-id h.1) ∙ all) h.4 in
    distinct_texts c.args.texts.items c.in_ok-set.set c.len.result made c.len.ensures.len
