-- Where a reader stands in the bytes for which it stands.
use Rattle.std.proofs.Common.{◌≡◌, ◌≢◌, ◌<◌, ◌≤◌, ◌+◌, ◌-◌, ◌++◌, ℕ, List, [], length, take, min, nat_le, arith, refl, sym, ap, subst, ◌∙◌, length-append, length-take, Option, Some, None, Ok}
use Rattle.std.proofs.lemmas.Bool.{le-leb, lt-leb}
use Rattle.h2_frames.specs.declared.parts.FrameFed.{FrameFed}
use Rattle.h2_frames.specs.declared.parts.Part.{Part}
use Rattle.h2_frames.specs.declared.parts.Part.TheVariants.{Piece, Done}
use Rattle.h2_frames.specs.FrameHead.{frame_size}
use Rattle.h2_frames.specs.FrameReader.{Kept, Position, Stands, StandsAt, begin_of, answer_of, part_of}
use Rattle.h2_frames.specs.FrameProgress.{has_begun}
use Rattle.h2_frames.specs.FramePositions.{IsOfPart, StandsWithin}
use Rattle.h2_frames.proofs.GrowthLemmas.{either}
use Rattle.h2_frames.proofs.FaultLemmas.{fine_judged, cut_part}
use Rattle.h2_frames.proofs.FedLemmas.{taken_few, taken_many, part_none, part_begin, part_done, part_idle, part_piece}
use Rattle.h2_frames.proofs.CallLemmas.{stands_at, stands_fine}
use Rattle.h2_frames.proofs.RunLemmas.{IsFine, ok_fine, not_due, part_frames}

begun_is : (kept : Kept) (seen : List ℕ) → kept.head ≡ take 10 seen → has_begun kept ≡ nat_le 9 (length seen)
begun_is kept seen e =
    let n : length kept.head ≡ min 10 (length seen) = ap length e ∙ length-take 10 seen in
    either (length seen) 9
    (λ few. let l : length kept.head < 9 = omega arith in lt-leb 9 (length kept.head) l
    ∙ sym (lt-leb 9 (length seen) few))
    (λ nine. let l : 9 ≤ length kept.head = omega arith in le-leb 9 (length kept.head) l
    ∙ sym (le-leb 9 (length seen) nine))

-- a reader that refused nothing stands within the bytes for which it stands
pub stands_within : (kept : Kept) (p : Position) → Stands kept p → kept.fault ≡ None → StandsWithin kept p
stands_within kept p s e =
    let at : StandsAt kept p.before p.seen = stands_at kept p e s in
    let fine = stands_fine kept p.before p.seen at in
    let part = λ (h : part_of p.seen [] ≢ Some Done). cut_part p.before p.seen at.frames
    (fine_judged p.before p.seen at.frames fine) (not_due p.seen h) in
    record {
      bytes = at.bytes;
      frames = at.frames;
      fine = fine;
      offset = at.place;
      begun = begun_is kept p.seen at.head;
      left = at.left;
      told = λ h. sym (part_frames p.before p.seen (part h));
      rest = λ h. ap (λ c. c.rest) (part h);
    }

-- parts

abbrev ReadsPart : List ℕ → List ℕ → FrameFed → Type 0
ReadsPart seen bytes fed = IsOfPart fed.part seen (take fed.taken bytes)

part_by : (seen bytes : List ℕ) (fed : FrameFed) (o : Option Part) → fed.part ≡ o
    → IsOfPart o seen (take fed.taken bytes) → ReadsPart seen bytes fed
part_by seen bytes fed o e k = subst (λ (x : Option Part). IsOfPart x seen (take fed.taken bytes)) (sym e) k

nothing_of : (n : ℕ) (bytes : List ℕ) → n ≡ 0 → take n bytes ≡ []
nothing_of n bytes z = ap (λ k. take k bytes) z

-- an answer's part is of the bytes that were seen and taken
pub answer_is_of_part : (p : Position) (bytes : List ℕ) (fed : FrameFed) → answer_of p bytes ≡ Ok fed
    → (9 ≤ length p.seen → length p.seen ≤ frame_size p.seen) → IsOfPart fed.part p.seen (take fed.taken bytes)
answer_is_of_part p bytes fed e most =
    let k : IsFine p bytes fed = ok_fine p bytes fed e in
    either (length p.seen) 9
    (λ few. either (length p.seen + length bytes) 9
    (λ less.
    let l : length (p.seen ++ take fed.taken bytes) < 9 = omega
    (arith, length-append p.seen (take fed.taken bytes), length-take fed.taken bytes) in
    part_by p.seen bytes fed None (k.part ∙ part_none p.seen bytes few less) (λ nine. absurd (omega arith)))
    (λ enough.
    let n : fed.taken ≡ 9 - length p.seen = omega (arith, k.taken, taken_few p.seen bytes few) in
    let l : length (p.seen ++ take fed.taken bytes)
    ≡ 9 = omega (arith, length-append p.seen (take fed.taken bytes), length-take fed.taken bytes) in
    let part : fed.part ≡ Some (begin_of (p.seen ++ take fed.taken bytes)) = k.part
    ∙ part_begin p.seen bytes few enough ∙ ap (λ m. Some (begin_of (p.seen ++ take m bytes))) (sym n) in
    part_by p.seen bytes fed (Some (begin_of (p.seen ++ take fed.taken bytes))) part (few, l, refl)))
    (λ nine. either (length p.seen) (frame_size p.seen)
    (λ within. either 0 (length bytes)
    (λ some.
    let n : fed.taken ≡ min (frame_size p.seen - length p.seen) (length bytes) = k.taken
    ∙ taken_many p.seen bytes nine in
    let len : length (take fed.taken bytes) ≡ fed.taken = omega (arith, length-take fed.taken bytes) in
    let l : length (p.seen ++ take fed.taken bytes) ≤ frame_size p.seen = omega
    (arith, length-append p.seen (take fed.taken bytes)) in
    let piece : fed.part ≡ Some (Piece fed.taken) = k.part ∙ part_piece p.seen bytes nine within some
    ∙ ap (λ j. Some (Piece j)) (sym k.taken) in
    part_by p.seen bytes fed (Some (Piece fed.taken)) piece (nine, len, l))
    (λ none.
    let z : length bytes ≡ 0 = omega arith in
    let n : fed.taken ≡ 0 = omega (arith, k.taken, taken_many p.seen bytes nine) in
    part_by p.seen bytes fed None (k.part
    ∙ part_idle p.seen bytes nine within z) (λ _. nothing_of fed.taken bytes n)))
    (λ all.
    let same : length p.seen ≡ frame_size p.seen = omega (arith, most nine) in
    let n : fed.taken ≡ 0 = omega (arith, k.taken, taken_many p.seen bytes nine) in
    part_by p.seen bytes fed (Some Done) (k.part
    ∙ part_done p.seen bytes nine all) (nine, same, nothing_of fed.taken bytes n)))
