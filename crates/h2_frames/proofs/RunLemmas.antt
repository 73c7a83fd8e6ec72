-- Calls of a reader one after another.
use Rattle.std.proofs.Common.{◌≡◌, ◌≢◌, ◌<◌, ◌≤◌, ◌+◌, ◌-◌, ◌++◌, ℕ, List, [], ◌∷◌, length, take, drop, min, cond, arith, refl, sym, ap, ap₂, subst, ◌∙◌, length-append, length-take, append-nil, append_assoc, Option, Some, None, Ok, Err, map}
use Rattle.std.proofs.lemmas.Bool.{le-ltb, lt-ltb}
use Rattle.std.proofs.lemmas.List.{drop-append-le, get_or_append_left, take-append-drop}
use Rattle.std.proofs.Math.ListN.{drop_of_length-le}
use Rattle.std.proofs.lemmas.List.Sums.{sum_by-cons}
use Rattle.std.specs.List.{sum_by}
use Rattle.std.specs.Option.{option_to_list}
use Rattle.base.specs.PiecewiseReading.{FeedCall, IsRun, AddsTaken, taken_in_all}
use Rattle.base.proofs.PiecewiseLemmas.{run_stands}
use Rattle.base.specs.Bytes.{AreBytes}
use Rattle.base.proofs.AreBytesLemmas.{AreBytes-append, AreBytes-drop, AreBytes-take}
use Rattle.h2_frames.specs.declared.fault.H2Fault.{H2Fault}
use Rattle.h2_frames.specs.declared.parts.FrameFed.{FrameFed}
use Rattle.h2_frames.specs.declared.parts.Part.{Part}
use Rattle.h2_frames.specs.declared.parts.Part.TheVariants.{Begin, Piece, Done}
use Rattle.h2_frames.specs.FrameHead.{length_with, stream_with, kind_of, flags_of, frame_size, Frame, frame_of}
use Rattle.h2_frames.specs.Http2Frame.{AreFrames, cut, behind, front, Whole, frames_of, rest_of, first_fault}
use Rattle.h2_frames.specs.FrameReader.{Position, no_bytes, bytes_read, taken_of, part_of, begin_of, fed_of, bytes_after, answer_by, answer_of, position_by, IsPart}
use Rattle.h2_frames.specs.FrameRuns.{Told, nothing_told, told_by, told_of, current_of, taken_by, frame_reading, TellsFrames}
use Rattle.h2_frames.proofs.FrontLemmas.{size_append, frame_size-append}
use Rattle.h2_frames.proofs.GrowthLemmas.{either}
use Rattle.h2_frames.proofs.FaultLemmas.{fine_judged, whole_frame, frames_of_whole, frames_whole, cut_part, frames_before, first_fault-append, fault_frames}
use Rattle.h2_frames.proofs.FedLemmas.{taken_few, taken_many, part_none, part_begin, part_done, part_idle, part_piece}
use Rattle.h2_frames.proofs.FreshLemmas.{no_frames, no_frames_told, nothing_is_fine}

-- an answer that is no refusal
pub record IsFine (p : Position) (bytes : List ℕ) (fed : FrameFed) : Type 0 where
  pub fine : first_fault (bytes_after p bytes) ≡ None
  pub taken : fed.taken ≡ taken_of p.seen bytes
  pub part : fed.part ≡ part_of p.seen bytes

ok_by : (o : Option H2Fault) (given fed : FrameFed) → answer_by o given ≡ Ok fed → (o ≡ None) × (given ≡ fed)
ok_by None given fed e = (refl, cc)
ok_by (Some f) given fed e = absurd (cc)

-- an answer that is no refusal is fine
pub ok_fine : (p : Position) (bytes : List ℕ) (fed : FrameFed) → answer_of p bytes ≡ Ok fed → IsFine p bytes fed
ok_fine p bytes fed e =
    let i = ok_by (first_fault (bytes_after p bytes)) (fed_of p.seen bytes) fed e in
    record { fine = i.0; taken = sym (ap (λ (x : FrameFed). x.taken) i.1); part = sym (ap (λ (x : FrameFed). x.part) i.1) }

err_by : (o : Option H2Fault) (given : FrameFed) (f : H2Fault) → answer_by o given ≡ Err f → o ≡ Some f
err_by None given f e = absurd (cc)
err_by (Some g) given f e = let same : g ≡ f = cc in ap Some same

-- a caller was told what the bytes so far are
pub record Agrees (p : Position) (told : Told) : Type 0 where
  pub whole : AreFrames p.before
  pub frames : told.frames ≡ frames_of p.before
  pub current : told.current ≡ current_of p.seen
  pub most : 9 ≤ length p.seen → length p.seen ≤ frame_size p.seen
  pub fine : first_fault (p.before ++ p.seen) ≡ None

current_few : (seen : List ℕ) → length seen < 9 → current_of seen ≡ None
current_few seen h = ap (λ b. cond b None (Some (frame_of seen))) (lt-ltb (length seen) 9 h)

current_many : (seen : List ℕ) → 9 ≤ length seen → current_of seen ≡ Some (frame_of seen)
current_many seen h = ap (λ b. cond b None (Some (frame_of seen))) (le-ltb (length seen) 9 h)

-- the same frame with more of its payload
frame_of-append : (seen more : List ℕ) → 9 ≤ length seen → frame_of (seen ++ more) ≡ record (frame_of seen) { payload = drop 9 seen ++ more }
frame_of-append seen more h =
    let three : 3 ≤ length seen = omega arith in
    let k : 3 < length seen = omega arith in
    let f : 4 < length seen = omega arith in
    let a : 5 < length seen = omega arith in
    let b : 6 < length seen = omega arith in
    let c : 7 < length seen = omega arith in
    let d : 8 < length seen = omega arith in
    let stream : stream_with 0 (seen ++ more) ≡ stream_with 0 seen = rw (get_or_append_left seen more 0 5 a, get_or_append_left seen more 0 6 b, get_or_append_left seen more 0 7 c, get_or_append_left seen more 0 8 d) refl in
    let one : ℕ → ℕ → Frame = λ size kind. record { size = size; kind = kind; flags = flags_of (seen ++ more); stream = stream_with 0 (seen ++ more); payload = drop 9 (seen ++ more) } in
    let two : ℕ → ℕ → Frame = λ flags no. record { size = length_with 0 seen; kind = kind_of seen; flags = flags; stream = no; payload = drop 9 (seen ++ more) } in
    let all : List ℕ → Frame = λ payload. record (frame_of seen) { payload = payload } in
    ap₂ one (size_append 0 seen more three) (get_or_append_left seen more 0 3 k) ∙ ap₂ two (get_or_append_left seen more 0 4 f) stream ∙ ap all (drop-append-le 9 seen more h)

abbrev Next : Position → List ℕ → FrameFed → Told → Type 0
Next p bytes fed told = Agrees (position_by fed.part p (take fed.taken bytes)) (told_by fed.part (take fed.taken bytes) told)

fine_after : (p : Position) (bytes : List ℕ) (fed : FrameFed) → IsFine p bytes fed → first_fault (p.before ++ (p.seen ++ take fed.taken bytes)) ≡ None
fine_after p bytes fed k = ap (λ n. first_fault (p.before ++ (p.seen ++ take n bytes))) k.taken ∙ k.fine

by_part : (p : Position) (bytes : List ℕ) (fed : FrameFed) (told : Told) (o : Option Part) → fed.part ≡ o → Agrees (position_by o p (take fed.taken bytes)) (told_by o (take fed.taken bytes) told) → Next p bytes fed told
by_part p bytes fed told o e a = subst (λ (x : Option Part). Agrees (position_by x p (take fed.taken bytes)) (told_by x (take fed.taken bytes) told)) (sym e) a

next_none : (p : Position) (bytes : List ℕ) (fed : FrameFed) (told : Told) → Agrees p told → IsFine p bytes fed → length p.seen < 9 → length p.seen + length bytes < 9 → Next p bytes fed told
next_none p bytes fed told a k few sum =
    let short : length (p.seen ++ take fed.taken bytes) < 9 = omega (arith, length-append p.seen (take fed.taken bytes), length-take fed.taken bytes) in
    by_part p bytes fed told None (k.part ∙ part_none p.seen bytes few sum)
    (record { whole = a.whole; frames = a.frames; current = a.current ∙ current_few p.seen few ∙ sym (current_few (p.seen ++ take fed.taken bytes) short); most = λ nine. absurd (omega arith); fine = fine_after p bytes fed k })

next_begin : (p : Position) (bytes : List ℕ) (fed : FrameFed) (told : Told) → Agrees p told → IsFine p bytes fed → length p.seen < 9 → 9 ≤ length p.seen + length bytes → Next p bytes fed told
next_begin p bytes fed told a k few sum =
    let n : fed.taken ≡ 9 - length p.seen = omega (arith, k.taken, taken_few p.seen bytes few) in
    let head : List ℕ = p.seen ++ take fed.taken bytes in
    let len : length (p.seen ++ take fed.taken bytes) ≡ 9 = omega (arith, length-append p.seen (take fed.taken bytes), length-take fed.taken bytes) in
    let nine : 9 ≤ length (p.seen ++ take fed.taken bytes) = omega arith in
    let le : length (p.seen ++ take fed.taken bytes) ≤ 9 = omega arith in
    let part : fed.part ≡ Some (begin_of (p.seen ++ take fed.taken bytes)) = k.part ∙ part_begin p.seen bytes few sum ∙ ap (λ m. Some (begin_of (p.seen ++ take m bytes))) (sym n) in
    let empty : [] ≡ drop 9 (p.seen ++ take fed.taken bytes) = sym (drop_of_length-le (p.seen ++ take fed.taken bytes) {i = 9} le) in
    let made : List ℕ → Option Frame = λ payload. Some (record (frame_of (p.seen ++ take fed.taken bytes)) { payload = payload }) in
    by_part p bytes fed told (Some (begin_of (p.seen ++ take fed.taken bytes))) part
    (record { whole = a.whole; frames = a.frames; current = ap made empty ∙ sym (current_many (p.seen ++ take fed.taken bytes) nine); most = λ _. omega arith; fine = fine_after p bytes fed k })

next_idle : (p : Position) (bytes : List ℕ) (fed : FrameFed) (told : Told) → Agrees p told → IsFine p bytes fed → 9 ≤ length p.seen → length p.seen < frame_size p.seen → length bytes ≡ 0 → Next p bytes fed told
next_idle p bytes fed told a k nine part z =
    let none : fed.taken ≡ 0 = omega (arith, k.taken, taken_many p.seen bytes nine) in
    let same : p.seen ≡ p.seen ++ take fed.taken bytes = sym (ap (λ n. p.seen ++ take n bytes) none ∙ append-nil p.seen) in
    by_part p bytes fed told None (k.part ∙ part_idle p.seen bytes nine part z) (subst (λ (xs : List ℕ). Agrees (record { before = p.before; seen = xs }) told) same a)

next_piece : (p : Position) (bytes : List ℕ) (fed : FrameFed) (told : Told) → Agrees p told → IsFine p bytes fed → 9 ≤ length p.seen → length p.seen < frame_size p.seen → 0 < length bytes → Next p bytes fed told
next_piece p bytes fed told a k nine part some =
    let n : fed.taken ≡ min (frame_size p.seen - length p.seen) (length bytes) = k.taken ∙ taken_many p.seen bytes nine in
    let more : List ℕ = take fed.taken bytes in
    let len : length (take fed.taken bytes) ≡ fed.taken = omega (arith, length-take fed.taken bytes) in
    let zero_is : length (take fed.taken bytes) - fed.taken ≡ 0 = omega arith in
    let last : drop (length (take fed.taken bytes) - fed.taken) (take fed.taken bytes) ≡ take fed.taken bytes = ap (λ j. drop j (take fed.taken bytes)) zero_is in
    let long : 9 ≤ length (p.seen ++ take fed.taken bytes) = omega (arith, length-append p.seen (take fed.taken bytes)) in
    let piece : fed.part ≡ Some (Piece fed.taken) = k.part ∙ part_piece p.seen bytes nine part some ∙ ap (λ j. Some (Piece j)) (sym k.taken) in
    let adds : Option Frame → Option Frame = λ o. (told_by (Some (Piece fed.taken)) (take fed.taken bytes) (record { frames = told.frames; current = o })).current in
    let made : List ℕ → Option Frame = λ xs. Some (record (frame_of p.seen) { payload = drop 9 p.seen ++ xs }) in
    let now = ap adds (a.current ∙ current_many p.seen nine) ∙ ap made last ∙ ap Some (sym (frame_of-append p.seen (take fed.taken bytes) nine)) ∙ sym (current_many (p.seen ++ take fed.taken bytes) long) in
    let most : length (p.seen ++ take fed.taken bytes) ≤ frame_size (p.seen ++ take fed.taken bytes) = omega (arith, length-append p.seen (take fed.taken bytes), frame_size-append p.seen (take fed.taken bytes) nine) in
    by_part p bytes fed told (Some (Piece fed.taken)) piece
    (record { whole = a.whole; frames = a.frames; current = now; most = λ _. most; fine = fine_after p bytes fed k })

next_done : (p : Position) (bytes : List ℕ) (fed : FrameFed) (told : Told) → Agrees p told → IsFine p bytes fed → 9 ≤ length p.seen → frame_size p.seen ≤ length p.seen → Next p bytes fed told
next_done p bytes fed told a k nine all =
    let most : length p.seen ≤ frame_size p.seen = a.most nine in
    let whole : length p.seen ≡ frame_size p.seen = omega arith in
    let w : front (cut p.before).context p.seen ≡ Whole p.seen [] = whole_frame (cut p.before).context p.seen nine whole (fine_judged p.before p.seen a.whole a.fine) in
    let f : told.frames ++ option_to_list told.current ≡ frames_of (p.before ++ p.seen) = ap₂ (λ xs o. xs ++ option_to_list o) a.frames (a.current ∙ current_many p.seen nine) ∙ sym (frames_of_whole p.before p.seen a.whole w) in
    by_part p bytes fed told (Some Done) (k.part ∙ part_done p.seen bytes nine all)
    (record { whole = frames_whole p.before p.seen a.whole w; frames = f; current = refl; most = λ nine. absurd (omega arith); fine = ap first_fault (append-nil (p.before ++ p.seen)) ∙ a.fine })

-- one call more
next : (p : Position) (bytes : List ℕ) (fed : FrameFed) (told : Told) → Agrees p told → answer_of p bytes ≡ Ok fed → Next p bytes fed told
next p bytes fed told a e =
    let k : IsFine p bytes fed = ok_fine p bytes fed e in
    either (length p.seen) 9
    (λ few. either (length p.seen + length bytes) 9 (next_none p bytes fed told a k few) (next_begin p bytes fed told a k few))
    (λ nine. either (length p.seen) (frame_size p.seen)
    (λ part. either 0 (length bytes) (next_piece p bytes fed told a k nine part) (λ z. next_idle p bytes fed told a k nine part (omega arith)))
    (next_done p bytes fed told a k nine))

-- each call's bytes are added
pub record AddsBytes (p next : Position) (bytes : List ℕ) : Type 0 where
  pub is : bytes_read next ≡ bytes_read p ++ bytes

adds_by : (o : Option Part) (p : Position) (bytes : List ℕ) → (o ≡ Some Done → bytes ≡ []) → AddsBytes p (position_by o p bytes) bytes
adds_by None p bytes h = record { is = sym (append_assoc p.before p.seen bytes) }
adds_by (Some (Begin size kind flags stream)) p bytes h = record { is = sym (append_assoc p.before p.seen bytes) }
adds_by (Some (Piece n)) p bytes h = record { is = sym (append_assoc p.before p.seen bytes) }
adds_by (Some Done) p bytes h = record { is = ap (λ xs. (p.before ++ p.seen) ++ xs) (sym (h refl)) }

nothing_of : (taken : ℕ) (o : Option Part) (bytes : List ℕ) → IsPart taken o → o ≡ Some Done → take taken bytes ≡ []
nothing_of taken None bytes h e = absurd (cc)
nothing_of taken (Some (Begin size kind flags stream)) bytes h e = let same : Begin size kind flags stream ≡ Done = cc in absurd (cc)
nothing_of taken (Some (Piece n)) bytes h e = let same : Piece n ≡ Done = cc in absurd (cc)
nothing_of taken (Some Done) bytes h e = ap (λ n. take n bytes) h

-- an answer adds the bytes that are taken
pub position_after_reads : (p : Position) (bytes : List ℕ) (fed : FrameFed) → IsPart fed.taken fed.part → bytes_read (position_by fed.part p (take fed.taken bytes)) ≡ bytes_read p ++ take fed.taken bytes
position_after_reads p bytes fed h = let a = adds_by fed.part p (take fed.taken bytes) (nothing_of fed.taken fed.part bytes h) in a.is

done_by : (seen bytes : List ℕ) → part_of seen bytes ≡ Some Done → (9 ≤ length seen → length seen ≤ frame_size seen) → taken_of seen bytes ≡ 0
done_by seen bytes h most = either (length seen) 9
    (λ few. either (length seen + length bytes) 9
    (λ sum. let e = part_none seen bytes few sum in absurd (cc))
    (λ sum. let e = part_begin seen bytes few sum in absurd (cc)))
    (λ nine. either (length seen) (frame_size seen)
    (λ part. either 0 (length bytes)
    (λ some. let e = part_piece seen bytes nine part some in absurd (cc))
    (λ z. omega (arith, taken_many seen bytes nine)))
    (λ all. omega (arith, taken_many seen bytes nine)))

adds : (p : Position) (bytes : List ℕ) (fed : FrameFed) (told : Told) → Agrees p told → answer_of p bytes ≡ Ok fed → AddsBytes p (position_by fed.part p (take fed.taken bytes)) (take fed.taken bytes)
adds p bytes fed told a e =
    let k : IsFine p bytes fed = ok_fine p bytes fed e in
    adds_by fed.part p (take fed.taken bytes) (λ d. ap (λ n. take n bytes) (k.taken ∙ done_by p.seen bytes (sym k.part ∙ d) a.most))

-- the bytes were read, and the caller was told what they are
record Reads (p : Position) (bytes : List ℕ) (told : Told) : Type 0 where
  pub agrees : Agrees p told
  pub read : bytes_read p ≡ bytes

-- one call more
adds_next : AddsTaken frame_reading Reads
adds_next = λ old new before bytes told fed s step. subst (λ (q : Position). Reads q (before ++ take fed.taken bytes) (told_by fed.part (take fed.taken bytes) told)) (sym step.next)
    (record {
      agrees = next old bytes fed told s.agrees step.answer;
      read = let a = adds old bytes fed told s.agrees step.answer in a.is ∙ ap (λ (xs : List ℕ). xs ++ take fed.taken bytes) s.read;
    })

nothing_agrees : Agrees no_bytes nothing_told
nothing_agrees = record { whole = no_frames; frames = no_frames_told; current = refl; most = λ nine. absurd (omega arith); fine = nothing_is_fine }

-- where no Done is due, what is seen is less than a frame
pub not_due : (seen : List ℕ) → part_of seen [] ≢ Some Done → 9 ≤ length seen → length seen < frame_size seen
not_due seen h nine = either (length seen) (frame_size seen) (λ part. part) (λ all. absurd (h (part_done seen [] nine all)))

-- less than a frame behind whole frames adds none
pub part_frames : (before seen : List ℕ) → cut (before ++ seen) ≡ behind (cut before).frames (record { frames = []; rest = seen; context = (cut before).context; fault = None }) → frames_of before ≡ frames_of (before ++ seen)
part_frames before seen e = sym (ap (λ c. map frame_of c.frames) e ∙ ap (map frame_of) (append-nil (cut before).frames))

nothing_read : Reads no_bytes [] nothing_told
nothing_read = record { agrees = nothing_agrees; read = refl }

run_reads : (calls : List (FeedCall FrameFed)) (last : Position) → IsRun frame_reading no_bytes calls last → Reads last (taken_in_all taken_by calls) (told_of calls)
run_reads calls last run = run_stands frame_reading Reads adds_next no_bytes last [] nothing_told calls nothing_read run

-- a run of calls tells the frames of the bytes that it took
pub run_tells : (calls : List (FeedCall FrameFed)) (last : Position) → IsRun frame_reading no_bytes calls last → TellsFrames calls last
run_tells calls last run =
    let reads = run_reads calls last run in
    let a : Agrees last (told_of calls) = reads.agrees in
    let read : bytes_read last ≡ taken_in_all taken_by calls = reads.read in
    let rest = λ (h : part_of last.seen [] ≢ Some Done). cut_part last.before last.seen a.whole (fine_judged last.before last.seen a.whole a.fine) (not_due last.seen h) in
    record {
      read = read;
      fine = ap first_fault (sym read) ∙ a.fine;
      frames = a.frames;
      current = a.current;
      all_frames = λ h. a.frames ∙ part_frames last.before last.seen (rest h) ∙ ap frames_of read;
      all_current = λ h. a.current ∙ ap current_of (sym (ap (λ c. c.rest) (rest h))) ∙ ap (λ xs. current_of (rest_of xs)) read;
    }

-- all bytes by the end of a call that takes so many
by_then : (p : Position) (taken bytes : List ℕ) (n : ℕ) → bytes_read p ≡ taken
    → p.before ++ (p.seen ++ take n bytes) ≡ taken ++ take n bytes
by_then p taken bytes n read =
    sym (append_assoc p.before p.seen (take n bytes)) ∙ ap (λ xs. xs ++ take n bytes) read

-- and those behind it
rejoined : (taken bytes more : List ℕ) (n : ℕ)
    → (taken ++ take n bytes) ++ (drop n bytes ++ more) ≡ taken ++ (bytes ++ more)
rejoined taken bytes more n =
    append_assoc taken (take n bytes) (drop n bytes ++ more)
    ∙ ap (λ xs. taken ++ xs) (sym (append_assoc (take n bytes) (drop n bytes) more))
    ∙ ap (λ xs. taken ++ (xs ++ more)) (take-append-drop n bytes)

refused_at : (p : Position) (taken bytes more : List ℕ) (f : H2Fault) (n : ℕ) → bytes_read p ≡ taken → first_fault (p.before ++ (p.seen ++ take n bytes)) ≡ Some f → AreBytes taken → AreBytes bytes → AreBytes more → first_fault (taken ++ (bytes ++ more)) ≡ Some f
refused_at p taken bytes more f n read h k b m =
    ap first_fault (sym (rejoined taken bytes more n))
    ∙ first_fault-append (taken ++ take n bytes) (drop n bytes ++ more) f
    (AreBytes-append taken (take n bytes) k (AreBytes-take n bytes b))
    (AreBytes-append (drop n bytes) more (AreBytes-drop n bytes b) m)
    (ap first_fault (sym (by_then p taken bytes n read)) ∙ h)

-- a refusal behind a run is the first fault of the whole list
pub run_refused : (calls : List (FeedCall FrameFed)) (last : Position) (bytes more : List ℕ) (f : H2Fault) → IsRun frame_reading no_bytes calls last → answer_of last bytes ≡ Err f
    → AreBytes (taken_in_all taken_by calls) → AreBytes bytes → AreBytes more → first_fault (taken_in_all taken_by calls ++ (bytes ++ more)) ≡ Some f
run_refused calls last bytes more f run e k b m =
    let h : first_fault (bytes_after last bytes) ≡ Some f = err_by (first_fault (bytes_after last bytes)) (fed_of last.seen bytes) f e in
    let reads = run_reads calls last run in
    refused_at last (taken_in_all taken_by calls) bytes more f (taken_of last.seen bytes) reads.read h k b m

-- what was seen of a frame, with what a call takes, is no more than a frame
seen_most : (seen bytes : List ℕ) (n : ℕ) → n ≡ taken_of seen bytes → (9 ≤ length seen → length seen ≤ frame_size seen)
    → length (seen ++ take n bytes) ≤ frame_size (seen ++ take n bytes)
seen_most seen bytes n z most = either (length seen) 9
    (λ few.
    let t : n ≡ min (9 - length seen) (length bytes) = z ∙ taken_few seen bytes few in
    let l : length (seen ++ take n bytes) ≤ 9 = omega (arith, length-append seen (take n bytes), length-take n bytes) in
    omega arith)
    (λ nine.
    let t : n ≡ min (frame_size seen - length seen) (length bytes) = z ∙ taken_many seen bytes nine in
    let most_now : length seen ≤ frame_size seen = most nine in
    let l : length (seen ++ take n bytes) ≤ frame_size seen =
    omega (arith, length-append seen (take n bytes), length-take n bytes) in
    omega (arith, frame_size-append seen (take n bytes) nine))

told_at : (p : Position) (taken bytes more : List ℕ) (f : H2Fault) (n : ℕ) → bytes_read p ≡ taken
    → n ≡ taken_of p.seen bytes → AreFrames p.before → (9 ≤ length p.seen → length p.seen ≤ frame_size p.seen)
    → first_fault (p.before ++ (p.seen ++ take n bytes)) ≡ Some f → AreBytes taken → AreBytes bytes → AreBytes more
    → frames_of p.before ≡ frames_of (taken ++ (bytes ++ more))
told_at p taken bytes more f n read z w most h k b m =
    let now : first_fault (taken ++ take n bytes) ≡ Some f = ap first_fault (sym (by_then p taken bytes n read)) ∙ h in
    let longer : frames_of ((taken ++ take n bytes) ++ (drop n bytes ++ more)) ≡ frames_of (taken ++ take n bytes) =
    fault_frames (taken ++ take n bytes) (drop n bytes ++ more) f
    (AreBytes-append taken (take n bytes) k (AreBytes-take n bytes b))
    (AreBytes-append (drop n bytes) more (AreBytes-drop n bytes b) m) now in
    sym (frames_before p.before (p.seen ++ take n bytes) f w (λ _. seen_most p.seen bytes n z most) h)
    ∙ ap frames_of (by_then p taken bytes n read) ∙ sym longer ∙ ap frames_of (rejoined taken bytes more n)

-- what was told before a refusal behind a run are all frames of the whole list
pub run_told : (calls : List (FeedCall FrameFed)) (last : Position) (bytes more : List ℕ) (f : H2Fault)
    → IsRun frame_reading no_bytes calls last → answer_of last bytes ≡ Err f → AreBytes (taken_in_all taken_by calls)
    → AreBytes bytes → AreBytes more
    → (told_of calls).frames ≡ frames_of (taken_in_all taken_by calls ++ (bytes ++ more))
run_told calls last bytes more f run e k b m =
    let h : first_fault (bytes_after last bytes) ≡ Some f =
    err_by (first_fault (bytes_after last bytes)) (fed_of last.seen bytes) f e in
    let reads = run_reads calls last run in
    let a : Agrees last (told_of calls) = reads.agrees in
    a.frames ∙ told_at last (taken_in_all taken_by calls) bytes more f (taken_of last.seen bytes) reads.read refl
    a.whole a.most h k b m

-- a call takes at most what it is given
taken_most : (p : Position) (bytes : List ℕ) → taken_of p.seen bytes ≤ length bytes
taken_most p bytes = either (length p.seen) 9
    (λ few. omega (arith, taken_few p.seen bytes few))
    (λ nine. omega (arith, taken_many p.seen bytes nine))

run_size : (calls : List (FeedCall FrameFed)) (old last : Position) → IsRun frame_reading old calls last → length (taken_in_all taken_by calls) ≡ sum_by (λ (call : FeedCall FrameFed). call.fed.taken) calls
run_size [] old last run = refl
run_size (call ∷ calls) old last run =
    let k : IsFine old call.bytes call.fed = ok_fine old call.bytes call.fed run.1.answer in
    let most : taken_of old.seen call.bytes ≤ length call.bytes = taken_most old call.bytes in
    let one : length (take call.fed.taken call.bytes) ≡ call.fed.taken = omega (arith, k.taken, length-take call.fed.taken call.bytes) in
    let others : length (taken_in_all taken_by calls) ≡ sum_by (λ (c : FeedCall FrameFed). c.fed.taken) calls = run_size calls run.0 last run.2 in
    length-append (take call.fed.taken call.bytes) (taken_in_all taken_by calls) ∙ ap₂ (λ x y. x + y) one others ∙ sym (sum_by-cons (λ (c : FeedCall FrameFed). c.fed.taken) call calls)

-- the bytes of a run are as many as its calls took
pub run_offset : (calls : List (FeedCall FrameFed)) (last : Position) → IsRun frame_reading no_bytes calls last → length (bytes_read last) ≡ sum_by (λ (call : FeedCall FrameFed). call.fed.taken) calls
run_offset calls last run = let reads = run_reads calls last run in ap length reads.read ∙ run_size calls no_bytes last run
