-- What a reader of parts has read, by whole lists.
use Rattle.std.proofs.Common.{◌≡◌, ◌↔◌, ◌≤◌, ◌<◌, ◌⊎◌, inl, inr, ℕ, ◌+◌, ◌-◌, nat_lt, List, [], ◌++◌, length, take, drop, min, refl, sym, ap, ◌∙◌, subst, arith, append_assoc, append-nil, length-append, length-take, Option, Some, None, if◌then◌else◌}
use Rattle.std.proofs.lemmas.Bool.{lt-ltb, le-ltb, cases_lt}
use Rattle.std.proofs.lemmas.List.{take_all, drop_all, take-append-le, take-append-drop}
use Rattle.http1_front.specs.declared.part.Part.{Part}
use Rattle.http1_front.specs.declared.place.Place.{Place}
use Rattle.http1_front.specs.declared.place.Place.TheVariants.{Blank, BlankReturn, InLine, LineFeed, LineFeedReturn, SectionStart, SectionReturn, InSizeLine}
use Rattle.http1_front.specs.declared.part_reader.Progress.{Progress}
use Rattle.http1_front.specs.declared.part_reader.Progress.TheVariants as progresses
use Rattle.http1_requests.specs.HeadEnd.{line_size, size_to_empty_line, head_size, behind_empty_lines, Cut, NoEnd, TooLarge, Ends}
use Rattle.http1_requests.proofs.Theorems.{same_ends, cut_at_end}
use Rattle.http1_front.specs.declared.scan.Found.{Found}
use Rattle.http1_front.specs.PartSizes.{part_size, part_lines}
use Rattle.http1_front.specs.PlaceSteps.{held, rest_size, rest_lines, moved}
use Rattle.http1_front.specs.PartScan.{IsScanned, IsWhole, FoundAt, IsFound}
use Rattle.http1_front.specs.PartReading.{part_cut, behind_cut, progress_behind, HasProgress, TakesAll, IsKept}

-- nothing ends where nothing comes
no_rest : (place : Place) → (rest_size place [] ≡ None) × (rest_lines place [] ≡ 0)
unfolding line_size size_to_empty_line head_size behind_empty_lines
no_rest Blank = (refl, refl)
no_rest BlankReturn = (refl, refl)
no_rest InLine = (refl, refl)
no_rest LineFeed = (refl, refl)
no_rest LineFeedReturn = (refl, refl)
no_rest SectionStart = (refl, refl)
no_rest SectionReturn = (refl, refl)
no_rest InSizeLine = (refl, refl)

-- a part that is scanned has no end so far
open_size : (part : Part) (bytes : List ℕ) (place : Place) (lines : ℕ) → IsScanned part bytes place lines
    → part_size part bytes ≡ None
open_size part bytes place lines s =
    ap (part_size part) (sym (append-nil bytes)) ∙ s.size []
    ∙ ap (moved (length bytes - held place)) (no_rest place).0

-- and so many lines have ended
open_lines : (part : Part) (bytes : List ℕ) (place : Place) (lines : ℕ) → IsScanned part bytes place lines
    → lines ≡ part_lines part bytes
open_lines part bytes place lines s =
    sym (ap (part_lines part) (sym (append-nil bytes)) ∙ s.ended [] ∙ ap (λ (n : ℕ). lines + n) (no_rest place).1
    ∙ omega arith)

-- a part that has ended is cut there, whatever follows
whole_cut : (part : Part) (bytes more : List ℕ) (lines : ℕ) → IsWhole part bytes lines → length bytes ≤ 16384
    → part_cut part (bytes ++ more) ≡ Ends bytes more
whole_cut part bytes more lines w fits = cut_at_end (part_size part) bytes w.size fits more

-- a part that is open is not cut
pub open_cut : (part : Part) (bytes : List ℕ) (place : Place) (lines : ℕ) → IsScanned part bytes place lines
    → length bytes < 16384 → part_cut part bytes ≡ NoEnd
open_cut part bytes place lines s few =
    rw (take_all 16384 bytes (omega (arith, few)), open_size part bytes place lines s, lt-ltb _ _ few) refl

-- a part that is too large stays so, whatever follows
large_cut : (part : Part) (bytes more : List ℕ) (place : Place) (lines : ℕ) → IsScanned part bytes place lines
    → length bytes ≡ 16384 → part_cut part (bytes ++ more) ≡ TooLarge
large_cut part bytes more place lines s full =
    let many : 16384 ≤ length (bytes ++ more) = omega (arith, full, length-append bytes more) in
    rw (
      take-append-le 16384 bytes more (omega (arith, full)),
      take_all 16384 bytes (omega (arith, full)),
      open_size part bytes place lines s,
      le-ltb _ _ many,
    ) refl

-- the cut of all bytes is that of the bytes that were read, with the rest behind it
pub reading_cut : (part : Part) (progress : Progress) (lines : ℕ) (bytes rest : List ℕ)
    → HasProgress part progress lines bytes → length bytes ≤ 16384 → TakesAll progress rest
    → part_cut part (bytes ++ rest) ≡ behind_cut (part_cut part bytes) rest
reading_cut part (progresses.Open place) lines bytes rest h w all =
    let none = open_cut part bytes place lines h.0 h.1 in
    ap (λ (t : List ℕ). part_cut part (bytes ++ t)) all ∙ ap (part_cut part) (append-nil bytes) ∙ none
    ∙ sym (ap (λ (c : Cut). behind_cut c rest) none)
reading_cut part progresses.Whole lines bytes rest h w all =
    whole_cut part bytes rest lines h w
    ∙ sym (ap (λ (c : Cut). behind_cut c rest)
    (ap (part_cut part) (sym (append-nil bytes)) ∙ whole_cut part bytes [] lines h w))
reading_cut part progresses.TooLarge lines bytes rest h w all =
    large_cut part bytes rest h.0 lines h.1 h.2
    ∙ sym (ap (λ (c : Cut). behind_cut c rest)
    (ap (part_cut part) (sym (append-nil bytes)) ∙ large_cut part bytes [] h.0 lines h.1 h.2))

-- the cut of what was read
abbrev pub CutIs : Progress → List ℕ → Cut → Type 0
CutIs (progresses.Open place) bytes cut = cut ≡ NoEnd
CutIs progresses.Whole bytes cut = cut ≡ Ends bytes []
CutIs progresses.TooLarge bytes cut = cut ≡ TooLarge

-- it is told by the progress
pub progress_cut : (part : Part) (progress : Progress) (lines : ℕ) (bytes : List ℕ)
    → HasProgress part progress lines bytes → length bytes ≤ 16384
    → CutIs progress bytes (part_cut part bytes)
progress_cut part (progresses.Open place) lines bytes h w = open_cut part bytes place lines h.0 h.1
progress_cut part progresses.Whole lines bytes h w =
    ap (part_cut part) (sym (append-nil bytes)) ∙ whole_cut part bytes [] lines h w
progress_cut part progresses.TooLarge lines bytes h w =
    ap (part_cut part) (sym (append-nil bytes)) ∙ large_cut part bytes [] h.0 lines h.1 h.2

-- nothing is left of a piece where the part is open
pub nothing_left : (part : Part) (progress : Progress) (lines : ℕ) (bytes rest : List ℕ)
    → HasProgress part progress lines bytes → length bytes ≤ 16384 → TakesAll progress rest → part_cut part bytes
    ≡ NoEnd
    → rest ≡ []
nothing_left part (progresses.Open place) lines bytes rest h w all e = all
nothing_left part progresses.Whole lines bytes rest h w all e =
    absurd (ends_apart (sym (progress_cut part progresses.Whole lines bytes h w) ∙ e))
  where
    ends_apart : Ends bytes [] ≡ NoEnd → ⊥
    ends_apart e = cc
nothing_left part progresses.TooLarge lines bytes rest h w all e =
    absurd (large_apart (sym (progress_cut part progresses.TooLarge lines bytes h w) ∙ e))
  where
    large_apart : TooLarge ≡ NoEnd → ⊥
    large_apart e = cc

-- bytes and a piece are what was taken of it, and the rest
pub joined : (old new piece : List ℕ) (n : ℕ) → new ≡ old ++ take n piece → old ++ piece ≡ new ++ drop n piece
joined old new piece n e =
    ap (λ (t : List ℕ). old ++ t) (sym (take-append-drop n piece))
    ∙ sym (append_assoc old (take n piece) (drop n piece)) ∙ ap (λ (t : List ℕ). t ++ drop n piece) (sym e)

-- the part has ended in these bytes exactly where it is read
pub reading_end : (part : Part) (progress : Progress) (lines : ℕ) (bytes rest : List ℕ)
    → HasProgress part progress lines bytes → length bytes ≤ 16384 → TakesAll progress rest
    → (p r : List ℕ) → (part_cut part (bytes ++ rest) ≡ Ends p r)
    ↔ ((part_cut part p ≡ Ends p []) × (bytes ≡ p) × (rest ≡ r))
reading_end part progress lines bytes rest h w all p r = (there progress h all, back)
  where
    no_end : NoEnd ≡ Ends p r → ⊥
    no_end x = absurd (cc)

    too_large : TooLarge ≡ Ends p r → ⊥
    too_large x = absurd (cc)

    there : (progress : Progress) → HasProgress part progress lines bytes → TakesAll progress rest
        → part_cut part (bytes ++ rest) ≡ Ends p r → (part_cut part p ≡ Ends p []) × (bytes ≡ p) × (rest ≡ r)
    there (progresses.Open place) h all e =
        absurd (no_end (sym (open_cut part bytes place lines h.0 h.1)
        ∙ ap (part_cut part) (sym (ap (λ (t : List ℕ). bytes ++ t) all ∙ append-nil bytes)) ∙ e))
    there progresses.Whole h all e =
        let is = same_ends bytes rest p r (sym (whole_cut part bytes rest lines h w) ∙ e) in (
          subst (λ (t : List ℕ). part_cut part t ≡ Ends t []) is.0
              (ap (part_cut part) (sym (append-nil bytes)) ∙ whole_cut part bytes [] lines h w),
          is.0,
          is.1,
        )
    there progresses.TooLarge h all e = absurd (too_large (sym (large_cut part bytes rest h.0 lines h.1 h.2) ∙ e))

    back : (part_cut part p ≡ Ends p []) × (bytes ≡ p) × (rest ≡ r) → part_cut part (bytes ++ rest) ≡ Ends p r
    back x =
        reading_cut part progress lines bytes rest h w all
        ∙ ap (λ (t : List ℕ). behind_cut (part_cut part t) rest) x.1
        ∙ ap (λ (c : Cut). behind_cut c rest) x.0
        ∙ ap (λ (t : List ℕ). Ends p t) x.2

-- a part that is too large stays so
pub reading_large : (part : Part) (progress : Progress) (lines : ℕ) (bytes rest : List ℕ)
    → HasProgress part progress lines bytes → length bytes ≤ 16384
    → part_cut part bytes ≡ TooLarge → (more : List ℕ) → part_cut part (bytes ++ (rest ++ more)) ≡ TooLarge
reading_large part (progresses.Open place) lines bytes rest h w e more =
    absurd (apart (sym (open_cut part bytes place lines h.0 h.1) ∙ e))
  where
    apart : NoEnd ≡ TooLarge → ⊥
    apart x = absurd (cc)
reading_large part progresses.Whole lines bytes rest h w e more =
    absurd (apart (sym (ap (part_cut part) (sym (append-nil bytes)) ∙ whole_cut part bytes [] lines h w) ∙ e))
  where
    apart : Ends bytes [] ≡ TooLarge → ⊥
    apart x = absurd (cc)
reading_large part progresses.TooLarge lines bytes rest h w e more =
    large_cut part bytes (rest ++ more) h.0 lines h.1 h.2

-- the lines that have ended
pub reading_lines : (part : Part) (progress : Progress) (lines : ℕ) (bytes : List ℕ)
    → HasProgress part progress lines bytes → length bytes ≤ 16384
    → lines ≡ part_lines part bytes
reading_lines part (progresses.Open place) lines bytes h w = open_lines part bytes place lines h.0
reading_lines part progresses.Whole lines bytes h w = sym h.ended
reading_lines part progresses.TooLarge lines bytes h w = open_lines part bytes h.0 lines h.1

-- a part that was found open, or with its end, has this progress
has_progress : (part : Part) (seen offered : List ℕ) (taken ended : ℕ) (place : Option Place)
    → FoundAt part seen offered taken ended place → taken ≤ length offered → length seen + length offered ≤ 16384
    → HasProgress part (progress_behind place (length (seen ++ take taken offered))) ended (seen ++ take taken offered)
has_progress part seen offered taken ended None found inside fits = found
has_progress part seen offered taken ended (Some p) found inside fits =
    let all : take taken offered ≡ offered = take_all taken offered (omega (arith, found.0)) in
    let scanned : IsScanned part (seen ++ take taken offered) p ended =
    subst (λ (t : List ℕ). IsScanned part (seen ++ t) p ended) (sym all) found.1 in
    let size : length (seen ++ take taken offered) ≤ 16384 =
    omega (arith, length-append seen (take taken offered), length-take taken offered, inside, fits) in
    by (seen ++ take taken offered) (cases_lt (length (seen ++ take taken offered)) 16384) scanned size
  where
    by : (bytes : List ℕ) → (length bytes < 16384) ⊎ (16384 ≤ length bytes) → IsScanned part bytes p ended
        → length bytes ≤ 16384
        → HasProgress part (if nat_lt (length bytes) 16384 then progresses.Open p else progresses.TooLarge) ended bytes
    by bytes (inl less) scanned size = rw (lt-ltb _ _ less) (scanned, less)
    by bytes (inr full) scanned size = rw (le-ltb _ _ full) (p, scanned, omega (arith, full, size))

-- a part that is open has taken the piece
takes_all : (part : Part) (seen piece : List ℕ) (taken ended n : ℕ) (place : Option Place)
    → FoundAt part seen (take n piece) taken ended place → n ≤ length piece
    → (length piece ≤ n) ⊎ (length seen + n ≡ 16384)
    → TakesAll (progress_behind place (length (seen ++ take taken (take n piece)))) (drop taken piece)
takes_all part seen piece taken ended n None found inside room = tt
takes_all part seen piece taken ended n (Some p) found inside room =
    let size : length (take n piece) ≡ n = omega (arith, length-take n piece, inside) in
    let all : take taken (take n piece) ≡ take n piece = take_all taken (take n piece) (omega (arith, found.0)) in
    let bytes : length (seen ++ take taken (take n piece)) ≡ length seen + n =
    ap (λ (t : List ℕ). length (seen ++ t)) all ∙ length-append seen (take n piece) ∙ omega (arith, size) in
    rw bytes (by room (cases_lt (length seen + n) 16384) (found.0 ∙ size))
  where
    by : (length piece ≤ n) ⊎ (length seen + n ≡ 16384) → (length seen + n < 16384) ⊎ (16384 ≤ length seen + n)
        → taken ≡ n
        → TakesAll (if nat_lt (length seen + n) 16384 then progresses.Open p else progresses.TooLarge)
        (drop taken piece)
    by (inl whole) (inl less) same = rw (lt-ltb _ _ less) (drop_all taken piece (omega (arith, whole, same)))
    by (inr full) (inl less) same = absurd (omega (arith, full, less))
    by room (inr many) same = rw (le-ltb _ _ many) tt

-- how much of a piece is offered: all of it, or as much as there is room for
room_for : (size : ℕ) (seen piece : List ℕ) → length seen ≤ 16384 → size ≡ min (length piece) (16384 - length seen)
    → (size ≤ length piece) × (length seen + size ≤ 16384) × ((length piece ≤ size) ⊎ (length seen + size ≡ 16384))
room_for size seen piece fits e = by (cases_lt (length piece) (16384 - length seen))
  where
    by : (length piece < 16384 - length seen) ⊎ (16384 - length seen ≤ length piece)
        → (size ≤ length piece) × (length seen + size ≤ 16384) × ((length piece ≤ size) ⊎ (length seen + size ≡ 16384))
    by (inl less) = (omega (arith, e, less), omega (arith, e, less, fits), inl (omega (arith, e, less)))
    by (inr more) = (omega (arith, e, more), omega (arith, e, more, fits), inr (omega (arith, e, more, fits)))

-- what is kept of a piece
pub kept_of : (part : Part) (seen piece : List ℕ) (size : ℕ) (found : Found)
    → length seen ≤ 16384 → size ≡ min (length piece) (16384 - length seen)
    → IsFound part seen (take size piece) found → found.taken ≤ length (take size piece)
    → IsKept part (seen ++ take found.taken (take size piece)) found (drop found.taken piece)
kept_of part seen piece size found fits e f inside =
    let room = room_for size seen piece fits e in
    let offered : length (take size piece) ≡ size = omega (arith, length-take size piece, room.0) in
    record {
      has = has_progress part seen (take size piece) found.taken found.lines found.place f inside
          (omega (arith, offered, room.1));
      all = takes_all part seen piece found.taken found.lines size found.place f room.0 room.2;
    }
