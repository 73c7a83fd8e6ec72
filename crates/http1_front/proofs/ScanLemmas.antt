-- One byte behind others, and many.
use Rattle.std.proofs.Common.{◌≡◌, ◌≤◌, ◌<◌, ◌==◌, Bool, true, false, if◌then◌else◌, ℕ, ◌+◌, ◌-◌, List, [], ◌∷◌, ◌++◌, length, take, slice_index, refl, sym, ap, ◌∙◌, arith, append_assoc, length-append, Option, Some, None}
use Rattle.std.proofs.lemmas.List.{take_more}
use Rattle.http1_front.specs.declared.part.Part.{Part}
use Rattle.http1_front.specs.declared.part.Part.TheVariants.{Head, SizeLine, Trailers}
use Rattle.http1_front.specs.declared.place.Place.{Place}
use Rattle.http1_front.specs.declared.place.Place.TheVariants.{Blank, BlankReturn, InLine, LineFeed, LineFeedReturn, SectionStart, SectionReturn, InSizeLine}
use Rattle.http1_front.specs.PartSizes.{part_size, part_lines}
use Rattle.http1_front.specs.PlaceSteps.{first_place, held, rest_size, feed_step, line_step, moved, IsAfter}
use Rattle.http1_front.specs.PartScan.{IsScanned, IsWhole}
use Rattle.http1_front.proofs.PlaceLemmas.{moved_zero}

moved_moved : (a b : ℕ) (x : Option ℕ) → moved a (moved b x) ≡ moved (a + b) x
moved_moved a b None = refl
moved_moved a b (Some n) = ap (λ (k : ℕ). Some k) (omega arith)

-- at the start of a part nothing was seen
pub scanned_nothing : (part : Part) → IsScanned part [] (first_place part) 0
scanned_nothing Head = record { room = omega arith; size = λ more. moved_zero _; ended = λ more. omega arith }
scanned_nothing SizeLine = record { room = omega arith; size = λ more. moved_zero _; ended = λ more. omega arith }
scanned_nothing Trailers = record { room = omega arith; size = λ more. moved_zero _; ended = λ more. omega arith }

-- one byte behind others
pub scanned_more : (part : Part) (seen : List ℕ) (place next : Place) (b lines : ℕ) → IsScanned part seen place lines
    → IsAfter place b (Some next) → IsScanned part (seen ++ b ∷ []) next (lines + line_step place b)
scanned_more part seen place next b lines s after =
    let size : length (seen ++ b ∷ []) ≡ length seen + 1 = simp (length-append) in
    let there : (length seen - held place) + (held place + 1 - held next) ≡ length (seen ++ b ∷ []) - held next =
    omega (arith, size, s.room, after.0) in
    record {
      room = omega (arith, size, s.room, after.0);
      size = λ more.
          ap (part_size part) (append_assoc seen (b ∷ []) more) ∙ s.size (b ∷ more)
          ∙ ap (moved (length seen - held place)) (after.1 more)
          ∙ moved_moved (length seen - held place) (held place + 1 - held next) (rest_size next more)
          ∙ ap (λ (d : ℕ). moved d (rest_size next more)) there;
      ended = λ more.
          ap (part_lines part) (append_assoc seen (b ∷ []) more) ∙ s.ended (b ∷ more)
          ∙ ap (λ (n : ℕ). lines + n) (after.2 more) ∙ omega arith;
    }

-- the last byte of a part
pub scanned_whole : (part : Part) (seen : List ℕ) (place : Place) (b lines : ℕ) → IsScanned part seen place lines
    → IsAfter place b None → IsWhole part (seen ++ b ∷ []) (lines + line_step place b)
scanned_whole part seen place b lines s after =
    let size : length (seen ++ b ∷ []) ≡ length seen + 1 = simp (length-append) in
    record {
      size = λ more.
          ap (part_size part) (append_assoc seen (b ∷ []) more) ∙ s.size (b ∷ more)
          ∙ ap (moved (length seen - held place)) (after.0 more)
          ∙ ap (λ (k : ℕ). Some k) (omega (arith, size, s.room));
      ended = s.ended (b ∷ []) ∙ ap (λ (n : ℕ). lines + n) after.1;
    }

-- one byte more of a piece
pub seen_more : (seen bytes : List ℕ) (i : ℕ) → i < length bytes
    → seen ++ take (i + 1) bytes ≡ (seen ++ take i bytes) ++ slice_index bytes i ∷ []
seen_more seen bytes i inside =
    ap (λ (t : List ℕ). seen ++ t) (take_more bytes i 0 inside)
    ∙ sym (append_assoc seen (take i bytes) (slice_index bytes i ∷ []))

-- a byte ends one line at most
pub line_step_small : (place : Place) (b : ℕ) → line_step place b ≤ 1
line_step_small place b = by (b == 10) place
  where
    by : (t : Bool) (p : Place) → (if t then feed_step p else 0) ≤ 1
    by false p = omega arith
    by true Blank = omega arith
    by true BlankReturn = omega arith
    by true InLine = omega arith
    by true LineFeed = omega arith
    by true LineFeedReturn = omega arith
    by true SectionStart = omega arith
    by true SectionReturn = omega arith
    by true InSizeLine = omega arith
