use Rattle.std.proofs.Common.{◌≡◌, ◌↔◌, ◌∙◌, ◌++◌, [], drop, length, refl, sym, ap, subst, arith, append_assoc, length-drop, ℕ, List}
use Rattle.http1_front.specs.PartReading.{part_cut, progress_behind, HasProgress, TakesAll}
use Rattle.http1_front.specs.declared.part_reader.Progress.{Progress}
use Rattle.http1_requests.specs.HeadEnd.{Ends}
use Rattle.http1_front.proofs.ReadingLemmas.{open_cut, reading_cut, reading_end, reading_large, nothing_left, joined}
use Rattle.http1_front.proofs.part_reader.PartReader.read.Goals as goal

pub returns-in-Whole-clause-cut : goal.returns-in-Whole-clause-cut
returns-in-Whole-clause-cut c =
    let r = c.self.inside in
    let piece = c.args.piece.now in
    let all = subst (λ (p : Progress). TakesAll p piece) (sym c.in-Whole.is) tt in
    rw (← c.self.view_is)
    (reading_cut r.part r.progress r.lines r.bytes.items piece c.self.invariant.0 c.self.invariant.1 all)

pub returns-in-Whole-clause-open : goal.returns-in-Whole-clause-open
returns-in-Whole-clause-open c =
    let r = c.self.inside in
    let piece = c.args.piece.now in
    let all = subst (λ (p : Progress). TakesAll p piece) (sym c.in-Whole.is) tt in
    rw (← c.self.view_is) (λ e.
    sym (ap (λ (t : List ℕ). length t)
    (nothing_left r.part r.progress r.lines r.bytes.items piece c.self.invariant.0 c.self.invariant.1 all e)))

pub returns-in-TooLarge-clause-cut : goal.returns-in-TooLarge-clause-cut
returns-in-TooLarge-clause-cut c =
    let r = c.self.inside in
    let piece = c.args.piece.now in
    let all = subst (λ (p : Progress). TakesAll p piece) (sym c.in-TooLarge.is) tt in
    rw (← c.self.view_is)
    (reading_cut r.part r.progress r.lines r.bytes.items piece c.self.invariant.0 c.self.invariant.1 all)

pub returns-in-TooLarge-clause-open : goal.returns-in-TooLarge-clause-open
returns-in-TooLarge-clause-open c =
    let r = c.self.inside in
    let piece = c.args.piece.now in
    let all = subst (λ (p : Progress). TakesAll p piece) (sym c.in-TooLarge.is) tt in
    rw (← c.self.view_is) (λ e.
    sym (ap (λ (t : List ℕ). length t)
    (nothing_left r.part r.progress r.lines r.bytes.items piece c.self.invariant.0 c.self.invariant.1 all e)))

pub returns-clause-cut : goal.returns-clause-cut
returns-clause-cut c =
    let r = c.self.inside in
    let piece = c.args.piece.now in
    let found = c.keep-found.result in
    let bytes = c.keep-found.new.bytes.items in
    let before =
    subst (λ (p : Progress). HasProgress r.part p r.lines r.bytes.items) c.in-Open.is c.self.invariant.0 in
    let kept = c.keep-found.ensures.kept r.part before.0 in
    rw (← c.self.view_is)
    (ap (part_cut r.part) (joined r.bytes.items bytes piece found.taken c.keep-found.ensures.bytes)
    ∙ reading_cut r.part (progress_behind found.place (length bytes)) found.lines bytes (drop found.taken piece)
    kept.has c.keep-found.ensures.within kept.all)

pub returns-clause-open : goal.returns-clause-open
returns-clause-open c =
    let r = c.self.inside in
    let piece = c.args.piece.now in
    let found = c.keep-found.result in
    let bytes = c.keep-found.new.bytes.items in
    let before =
    subst (λ (p : Progress). HasProgress r.part p r.lines r.bytes.items) c.in-Open.is c.self.invariant.0 in
    let kept = c.keep-found.ensures.kept r.part before.0 in
    λ e.
    let none =
    nothing_left r.part (progress_behind found.place (length bytes)) found.lines bytes (drop found.taken piece)
    kept.has c.keep-found.ensures.within kept.all e in
    let size = ap (λ (t : List ℕ). length t) none in
    omega (arith, size, length-drop found.taken piece, c.keep-found.ensures.taken)

pub returns-in-Whole-clause-end : goal.returns-in-Whole-clause-end
returns-in-Whole-clause-end c =
    let r = c.self.inside in
    let piece = c.args.piece.now in
    let all = subst (λ (p : Progress). TakesAll p piece) (sym c.in-Whole.is) tt in
    rw (← c.self.view_is)
    (reading_end r.part r.progress r.lines r.bytes.items piece c.self.invariant.0 c.self.invariant.1 all)

pub returns-in-Whole-clause-closed : goal.returns-in-Whole-clause-closed
returns-in-Whole-clause-closed c = λ e. (refl, refl)

pub returns-in-Whole-clause-large : goal.returns-in-Whole-clause-large
returns-in-Whole-clause-large c =
    let r = c.self.inside in
    rw (← c.self.view_is)
    (reading_large r.part r.progress r.lines r.bytes.items c.args.piece.now c.self.invariant.0 c.self.invariant.1)

pub returns-in-TooLarge-clause-end : goal.returns-in-TooLarge-clause-end
returns-in-TooLarge-clause-end c =
    let r = c.self.inside in
    let piece = c.args.piece.now in
    let all = subst (λ (p : Progress). TakesAll p piece) (sym c.in-TooLarge.is) tt in
    rw (← c.self.view_is)
    (reading_end r.part r.progress r.lines r.bytes.items piece c.self.invariant.0 c.self.invariant.1 all)

pub returns-in-TooLarge-clause-closed : goal.returns-in-TooLarge-clause-closed
returns-in-TooLarge-clause-closed c = λ e. (refl, refl)

pub returns-in-TooLarge-clause-large : goal.returns-in-TooLarge-clause-large
returns-in-TooLarge-clause-large c =
    let r = c.self.inside in
    rw (← c.self.view_is)
    (reading_large r.part r.progress r.lines r.bytes.items c.args.piece.now c.self.invariant.0 c.self.invariant.1)

pub returns-clause-end : goal.returns-clause-end
returns-clause-end c =
    let r = c.self.inside in
    let piece = c.args.piece.now in
    let found = c.keep-found.result in
    let bytes = c.keep-found.new.bytes.items in
    let before =
    subst (λ (p : Progress). HasProgress r.part p r.lines r.bytes.items) c.in-Open.is c.self.invariant.0 in
    let kept = c.keep-found.ensures.kept r.part before.0 in
    rw (← c.self.view_is)
    (subst (λ (w : List ℕ). (p q : List ℕ) → (part_cut r.part w ≡ Ends p q)
    ↔ ((part_cut r.part p ≡ Ends p []) × (bytes ≡ p) × (drop found.taken piece ≡ q)))
    (sym (joined r.bytes.items bytes piece found.taken c.keep-found.ensures.bytes))
    (reading_end r.part (progress_behind found.place (length bytes)) found.lines bytes (drop found.taken piece)
    kept.has c.keep-found.ensures.within kept.all))

pub returns-clause-closed : goal.returns-clause-closed
returns-clause-closed c =
    let r = c.self.inside in
    let before =
    subst (λ (p : Progress). HasProgress r.part p r.lines r.bytes.items) c.in-Open.is c.self.invariant.0 in
    rw (← c.self.view_is)
    (λ e. absurd (e (open_cut r.part r.bytes.items c.in-Open.place r.lines before.0 before.1)))

pub returns-clause-large : goal.returns-clause-large
returns-clause-large c =
    let r = c.self.inside in
    let piece = c.args.piece.now in
    let found = c.keep-found.result in
    let bytes = c.keep-found.new.bytes.items in
    let before =
    subst (λ (p : Progress). HasProgress r.part p r.lines r.bytes.items) c.in-Open.is c.self.invariant.0 in
    let kept = c.keep-found.ensures.kept r.part before.0 in
    let seam = joined r.bytes.items bytes piece found.taken c.keep-found.ensures.bytes in
    rw (← c.self.view_is)
    (λ e more.
    ap (part_cut r.part)
    (sym (append_assoc r.bytes.items piece more) ∙ ap (λ (w : List ℕ). w ++ more) seam
    ∙ append_assoc bytes (drop found.taken piece) more)
    ∙ reading_large r.part (progress_behind found.place (length bytes)) found.lines bytes (drop found.taken piece)
    kept.has c.keep-found.ensures.within e more)
