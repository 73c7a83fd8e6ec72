use Rattle.std.proofs.Common.{rules, ◌≡◌, ◌++◌, ◌-◌, ℕ, List, length, take, drop, min, sym, subst}
use Rattle.http1_front.specs.PartReading.{IsKept}
use Rattle.http1_front.proofs.ReadingLemmas.{kept_of}
use Rattle.http1_front.proofs.part_reader.keep.Goals as goal

pub returns-clause-kept : goal.returns-clause-kept
returns-clause-kept c =
    let seen = c.args.bytes.now.items in
    let piece = c.args.piece.now in
    let found = c.find_end-found.result in
    let size : c.min.result ≡ min (length piece) (16384 - length seen) = search rules in
    let items : c.extend_from_slice.new.self.items ≡ seen ++ take found.taken (take c.min.result piece) =
    search rules in
    λ part scanned.
    subst (λ (t : List ℕ). IsKept part t found (drop found.taken piece)) (sym items)
    (kept_of part seen piece c.min.result found c.requires.within size
    (c.find_end-found.ensures.found part seen scanned) c.find_end-found.ensures.taken)
