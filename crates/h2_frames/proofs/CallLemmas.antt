-- One call of a reader, and all the bytes for which it stands.
use Rattle.std.proofs.Common.{◌≡◌, ◌<◌, ◌≤◌, ◌+◌, ◌-◌, ◌++◌, ℕ, List, [], ◌∷◌, length, take, drop, min, arith, refl, sym, ap, ap₂, subst, ◌∙◌, length-append, length-take, get_or, lit<, lit≤, Fits, w8, append-nil, append_assoc, Option, Some, None, Result, Ok, Err, IfOk}
use Rattle.std.proofs.lemmas.List.{take_all, take_min, take-append-drop, get_or-take}
use Rattle.base.specs.Bytes.{AreBytes}
use Rattle.base.specs.Saturated.{saturated}
use Rattle.base.proofs.AreBytesLemmas.{AreBytes-append, AreBytes_parts, AreBytes-drop, AreBytes-take}
use Rattle.h2_frames.specs.declared.fault.H2Fault.{H2Fault}
use Rattle.h2_frames.specs.declared.parts.FrameFed.{FrameFed}
use Rattle.h2_frames.specs.declared.parts.Part.{Part}
use Rattle.h2_frames.specs.declared.parts.Part.TheVariants.{Begin, Piece, Done}
use Rattle.h2_frames.specs.FrameHead.{length_with, stream_with, kind_of, flags_of, frame_size, frame_of}
use Rattle.h2_frames.specs.FrameErrors.{Context, judge, Fault}
use Rattle.h2_frames.specs.Http2Frame.{cut, front, judged, after, Broken, Whole, first_fault, frames_of}
use Rattle.h2_frames.specs.FrameReader.{Position, taken_of, part_of, begin_of, bytes_after, answer_of, position_by, position_after, Kept, IsNoFault, StandsAt, StandsBroken, StandsBy, Stands}
use Rattle.h2_frames.specs.FrameSteps.{head_with, pad_with, IsHeadPart, IsHeadStep, IsPayloadStep, IsMoreStep, IsLastStep}
use Rattle.h2_frames.proofs.FrontLemmas.{judged_few, judged_many, frame_size-append, size_take, broken_front, nothing_fine}
use Rattle.h2_frames.proofs.GrowthLemmas.{either, take_append, take_both, judged_nine, broken_grows}
use Rattle.h2_frames.proofs.FaultLemmas.{broken_fault, fine_fault, cut_whole, whole_frame, frames_of_whole, frames_whole}
use Rattle.h2_frames.proofs.FedLemmas.{taken_few, taken_many, part_none, part_begin, part_done, part_idle, part_piece, answer_ok, answer_err}

-- what a slice of bytes holds are bytes
pub bytes_of : (bs : List ℕ) → ((i : ℕ) → Fits w8 (get_or bs i 0)) → AreBytes bs
bytes_of bs k i = let f : Fits w8 (get_or bs i 0) = k i in omega arith

-- what a call must give
pub record Gives (p : Position) (bytes : List ℕ) (result : Result FrameFed H2Fault) (new : Kept) : Type 0 where
  pub stands : Stands new (position_after result p bytes)
  pub answers : result ≡ answer_of p bytes

standing : (kept : Kept) (p : Position) → kept.fault ≡ None → StandsAt kept p.before p.seen → Stands kept p
standing kept p e s = record { by = subst (λ o. StandsBy o kept p) (sym e) s }

-- where nothing was refused, no rule is broken so far
pub stands_at : (kept : Kept) (p : Position) → kept.fault ≡ None → Stands kept p → StandsAt kept p.before p.seen
stands_at kept p e s = subst (λ o. StandsBy o kept p) e s.by

-- all bytes that came, and more of them
more_bytes : (before seen more : List ℕ) → AreBytes (before ++ seen) → AreBytes more
    → AreBytes (before ++ (seen ++ more))
more_bytes before seen more s k =
    subst AreBytes (append_assoc before seen more) (AreBytes-append (before ++ seen) more s k)

-- refusals

stays_broken : (f : H2Fault) (before seen more : List ℕ) → AreBytes more → StandsBroken f before seen → StandsBroken f before (seen ++ more)
stays_broken f before seen more k s =
    let parts = AreBytes_parts before seen s.bytes in
    let all : AreBytes (seen ++ more) = AreBytes-append seen more parts.1 k in
    record {
      frames = s.frames;
      broken = broken_grows (cut before).context seen more f.code all s.broken;
      place = s.place;
      bytes = more_bytes before seen more s.bytes k;
    }

rejoined : (seen bytes : List ℕ) (n : ℕ) → (seen ++ take n bytes) ++ drop n bytes ≡ seen ++ bytes
rejoined seen bytes n = append_assoc seen (take n bytes) (drop n bytes) ∙ ap (λ xs. seen ++ xs) (take-append-drop n bytes)

refused_gives : (f : H2Fault) (p : Position) (bytes : List ℕ) (new : Kept) → AreBytes bytes → new.fault ≡ Some f → StandsBroken f p.before (p.seen ++ take (taken_of p.seen bytes) bytes) → Gives p bytes (Err f) new
refused_gives f p bytes new k e s =
    let n = taken_of p.seen bytes in
    let all : StandsBroken f p.before (p.seen ++ bytes) = subst (StandsBroken f p.before) (rejoined p.seen bytes (taken_of p.seen bytes)) (stays_broken f p.before (p.seen ++ take (taken_of p.seen bytes) bytes) (drop (taken_of p.seen bytes) bytes) (AreBytes-drop (taken_of p.seen bytes) bytes k) s) in
    record { stands = record { by = subst (λ o. StandsBy o new (record { before = p.before; seen = p.seen ++ bytes })) (sym e) all }; answers = answer_err p bytes f (broken_fault f p.before (p.seen ++ take (taken_of p.seen bytes) bytes) s) }

-- a call behind a refusal answers the same
pub stuck_gives : (old : Kept) (f : H2Fault) (p : Position) (bytes : List ℕ) → AreBytes bytes → old.fault ≡ Some f → Stands old p → Gives p bytes (Err f) old
stuck_gives old f p bytes k e s =
    let b : StandsBroken f p.before p.seen = subst (λ o. StandsBy o old p) e s.by in
    refused_gives f p bytes old k e (stays_broken f p.before p.seen (take (taken_of p.seen bytes) bytes) (AreBytes-take (taken_of p.seen bytes) bytes k) b)

breaks : (old : Kept) (f : H2Fault) (before seen more : List ℕ) → AreBytes more → StandsAt old before seen → judge old.context (judged (seen ++ more)) ≡ Fault f.code → f.place ≡ old.place → StandsBroken f before (seen ++ more)
breaks old f before seen more k s h q = record { frames = s.frames; broken = subst (λ at. front at (seen ++ more) ≡ Broken f.code) (sym s.context) (broken_front old.context (seen ++ more) f.code h); place = q ∙ s.place; bytes = more_bytes before seen more s.bytes k }

-- parts

judged_kept : (kept : Kept) (before seen : List ℕ) → StandsAt kept before seen → judged seen ≡ kept.head
judged_kept kept before seen s = either (length seen) 9
    (λ few. let ten : length seen ≤ 10 = omega arith in judged_few seen few ∙ sym (take_all 10 seen ten) ∙ sym s.head)
    (λ nine.
    let left : kept.left + length seen ≡ frame_size seen = s.left nine in
    let all : take (min 10 (frame_size seen)) seen ≡ take 10 seen = either (frame_size seen) 10
    (λ small. let a : length seen ≤ min 10 (frame_size seen) = omega arith in let b : length seen ≤ 10 = omega arith in take_all (min 10 (frame_size seen)) seen a ∙ sym (take_all 10 seen b))
    (λ large. let a : min 10 (frame_size seen) ≡ 10 = omega arith in ap (λ n. take n seen) a) in
    judged_many seen nine ∙ all ∙ sym s.head)

fine_kept : (kept : Kept) (before seen : List ℕ) → StandsAt kept before seen → IsNoFault (judge (cut before).context (judged seen))
fine_kept kept before seen s = subst (λ at. IsNoFault (judge at (judged seen))) (sym s.context) (subst (λ (xs : List ℕ). IsNoFault (judge kept.context xs)) (sym (judged_kept kept before seen s)) s.fine)

-- where no rule is broken so far, the bytes have no fault
pub stands_fine : (kept : Kept) (before seen : List ℕ) → StandsAt kept before seen → first_fault (before ++ seen) ≡ None
stands_fine kept before seen s = fine_fault before seen s.frames (fine_kept kept before seen s) (λ nine. let left : kept.left + length seen ≡ frame_size seen = s.left nine in omega arith)

-- a part that is not the end of a frame
moves : (p : Position) (bytes : List ℕ) (fed : FrameFed) (new : Kept) → new.fault ≡ None → StandsAt new p.before (p.seen ++ take fed.taken bytes)
    → position_by fed.part p (take fed.taken bytes) ≡ record { before = p.before; seen = p.seen ++ take fed.taken bytes }
    → fed.taken ≡ taken_of p.seen bytes → fed.part ≡ part_of p.seen bytes → Gives p bytes (Ok fed) new
moves p bytes fed new e s at t q =
    let next : Position = record { before = p.before; seen = p.seen ++ take fed.taken bytes } in
    let fine : first_fault (bytes_after p bytes) ≡ None = subst (λ (n : ℕ). first_fault (p.before ++ (p.seen ++ take n bytes)) ≡ None) t (stands_fine new p.before (p.seen ++ take fed.taken bytes) s) in
    record { stands = subst (Stands new) (sym at) (standing new next e s); answers = answer_ok p bytes fed fine t q }

-- less than a head is all that was seen of the frame
head_all : (old : Kept) (before seen : List ℕ) → StandsAt old before seen → length old.head < 9 → old.head ≡ seen
head_all old before seen s l =
    let e : length old.head ≡ min 10 (length seen) = ap length s.head ∙ length-take 10 seen in
    let k : length seen ≤ 10 = omega arith in
    s.head ∙ take_all 10 seen k

few_seen : (old : Kept) (before seen : List ℕ) → StandsAt old before seen → length old.head < 9 → length seen < 9
few_seen old before seen s l = let e : length old.head ≡ length seen = ap length (head_all old before seen s l) in omega arith

taken_head : (seen bytes : List ℕ) → length seen < 9 → take (taken_of seen bytes) bytes ≡ take (9 - length seen) bytes
taken_head seen bytes l = ap (λ n. take n bytes) (taken_few seen bytes l) ∙ take_min (9 - length seen) bytes

head_next : (old : Kept) (before seen bytes : List ℕ) → StandsAt old before seen → length old.head < 9 → head_with old bytes ≡ seen ++ take (taken_of seen bytes) bytes
head_next old before seen bytes s l = ap (λ xs. xs ++ take (9 - length xs) bytes) (head_all old before seen s l) ∙ ap (λ xs. seen ++ xs) (sym (taken_head seen bytes (few_seen old before seen s l)))

-- a part whose numbers are those of a head is the one that begins it
pub begin_same : (size kind flags stream : ℕ) (head : List ℕ) → size ≡ length_with 0 head → kind ≡ kind_of head → flags ≡ flags_of head → stream ≡ stream_with 0 head → Begin size kind flags stream ≡ begin_of head
begin_same size kind flags stream head a b c d = ap₂ (λ x y. Begin x y flags stream) a b ∙ ap₂ (λ x y. Begin (length_with 0 head) (kind_of head) x y) c d

head_part : (old new : Kept) (p : Position) (bytes : List ℕ) (n : ℕ) (o : Option Part) → AreBytes bytes → old.fault ≡ None → length old.head < 9 → StandsAt old p.before p.seen → IsHeadPart old bytes (head_with old bytes) n o new → Gives p bytes (Ok (record { taken = n; part = o })) new
head_part old new p bytes n None k e l s h =
    let seen = p.seen in
    let few : length p.seen < 9 = few_seen old p.before p.seen s l in
    let a : old.head ≡ p.seen = head_all old p.before p.seen s l in
    let all : length bytes ≤ length bytes = omega arith in
    let t : take n bytes ≡ bytes = ap (λ m. take m bytes) h.0 ∙ take_all (length bytes) bytes all in
    let nx : head_with old bytes ≡ p.seen ++ take n bytes = h.2 ∙ ap (λ xs. xs ++ bytes) a ∙ ap (λ xs. p.seen ++ xs) (sym t) in
    let nine : length (p.seen ++ take n bytes) < 9 = subst (λ (xs : List ℕ). length xs < 9) nx h.1 in
    let ten : length (p.seen ++ take n bytes) ≤ 10 = omega arith in
    let sum : length p.seen + length bytes < 9 = omega (arith, length-append p.seen (take n bytes), ap length t) in
    let taken : n ≡ taken_of p.seen bytes = omega (arith, taken_few p.seen bytes few, h.0) in
    let now : Kept = record old { head = head_with old bytes } in
    let at : StandsAt now p.before (p.seen ++ take n bytes) = record { frames = s.frames; context = s.context; place = s.place; head = nx ∙ sym (take_all 10 (p.seen ++ take n bytes) ten); left = λ q. absurd (omega arith); fine = h.4; bytes = more_bytes p.before p.seen (take n bytes) s.bytes (AreBytes-take n bytes k) } in
    subst (Gives p bytes (Ok (record { taken = n; part = None }))) (sym h.3) (moves p bytes (record { taken = n; part = None }) now e at refl taken (sym (part_none p.seen bytes few sum)))
head_part old new p bytes n (Some (Begin size kind flags stream)) k e l s h =
    let few : length p.seen < 9 = few_seen old p.before p.seen s l in
    let a : length old.head ≡ length p.seen = ap length (head_all old p.before p.seen s l) in
    let b : n ≤ length bytes = h.1 in
    let m : n ≡ 9 - length p.seen = omega (arith, h.0) in
    let taken : n ≡ taken_of p.seen bytes = omega (arith, taken_few p.seen bytes few) in
    let nx : head_with old bytes ≡ p.seen ++ take n bytes = head_next old p.before p.seen bytes s l ∙ ap (λ j. p.seen ++ take j bytes) (sym taken) in
    let len : length (p.seen ++ take n bytes) ≡ 9 = omega (arith, length-append p.seen (take n bytes), length-take n bytes) in
    let ten : length (p.seen ++ take n bytes) ≤ 10 = omega arith in
    let sum : 9 ≤ length p.seen + length bytes = omega arith in
    let sz : size ≡ length_with 0 (p.seen ++ take n bytes) = h.4 ∙ ap (length_with 0) nx in
    let now : Kept = record old { head = head_with old bytes; left = size } in
    let lf : size + length (p.seen ++ take n bytes) ≡ frame_size (p.seen ++ take n bytes) = omega arith in
    let at : StandsAt now p.before (p.seen ++ take n bytes) = record { frames = s.frames; context = s.context; place = s.place; head = nx ∙ sym (take_all 10 (p.seen ++ take n bytes) ten); left = λ q. lf; fine = h.3; bytes = more_bytes p.before p.seen (take n bytes) s.bytes (AreBytes-take n bytes k) } in
    let made : Begin size kind flags stream ≡ begin_of (head_with old bytes) = begin_same size kind flags stream (head_with old bytes) h.4 h.5 h.6 h.7 in
    let part : Some (Begin size kind flags stream) ≡ part_of p.seen bytes = ap Some (made ∙ ap begin_of (nx ∙ ap (λ j. p.seen ++ take j bytes) m)) ∙ sym (part_begin p.seen bytes few sum) in
    subst (Gives p bytes (Ok (record { taken = n; part = Some (Begin size kind flags stream) }))) (sym h.2) (moves p bytes (record { taken = n; part = Some (Begin size kind flags stream) }) now e at refl taken part)
head_part old new p bytes n (Some (Piece j)) k e l s h = absurd h
head_part old new p bytes n (Some Done) k e l s h = absurd h

-- a call within a head gives what the definitions say
pub head_gives : (old : Kept) (p : Position) (bytes : List ℕ) (result : Result FrameFed H2Fault) (new : Kept) → AreBytes bytes → old.fault ≡ None → length old.head < 9 → Stands old p → IsHeadStep old bytes result new → Gives p bytes result new
head_gives old p bytes (Ok fed) new k e l s h = head_part old new p bytes fed.taken fed.part k e l (stands_at old p e s) h
head_gives old p bytes (Err f) new k e l s h =
    let st = stands_at old p e s in
    let n = taken_of p.seen bytes in
    let few : length p.seen < 9 = few_seen old p.before p.seen st l in
    let small : length (p.seen ++ take (taken_of p.seen bytes) bytes) ≤ 9 = omega (arith, length-append p.seen (take (taken_of p.seen bytes) bytes), ap length (taken_head p.seen bytes few), length-take (9 - length p.seen) bytes) in
    let j : judge old.context (judged (p.seen ++ take (taken_of p.seen bytes) bytes)) ≡ Fault f.code = ap (judge old.context) (judged_nine (p.seen ++ take (taken_of p.seen bytes) bytes) small ∙ sym (head_next old p.before p.seen bytes st l)) ∙ h.2 in
    refused_gives f p bytes new k (ap (λ (x : Kept). x.fault) h.0) (breaks old f p.before p.seen (take (taken_of p.seen bytes) bytes) (AreBytes-take (taken_of p.seen bytes) bytes k) st j h.1)

-- a payload

many_seen : (old : Kept) (before seen : List ℕ) → StandsAt old before seen → 9 ≤ length old.head → 9 ≤ length seen
many_seen old before seen s l = let e : length old.head ≡ min 10 (length seen) = ap length s.head ∙ length-take 10 seen in omega arith

taken_left : (old : Kept) (before seen bytes : List ℕ) → StandsAt old before seen → 9 ≤ length seen → taken_of seen bytes ≡ min old.left (length bytes)
taken_left old before seen bytes s nine = let left : old.left + length seen ≡ frame_size seen = s.left nine in omega (arith, taken_many seen bytes nine)

-- the bytes that are kept of the frame, with those that are taken
pad_next : (old : Kept) (before seen bytes : List ℕ) → StandsAt old before seen → 9 ≤ length old.head → 0 < old.left → pad_with old bytes ≡ take 10 (seen ++ bytes)
pad_next old before seen bytes s l p =
    let e : length old.head ≡ min 10 (length seen) = ap length s.head ∙ length-take 10 seen in
    let n : min old.left (10 - length old.head) ≡ 10 - length seen = omega arith in
    ap (λ j. old.head ++ take j bytes) n ∙ ap (λ xs. xs ++ take (10 - length seen) bytes) s.head ∙ sym (take_append 10 seen bytes)

pad_taken : (old : Kept) (before seen bytes : List ℕ) (n : ℕ) → StandsAt old before seen → 9 ≤ length old.head → 0 < old.left → 0 < n → pad_with old bytes ≡ take 10 (seen ++ take n bytes)
pad_taken old before seen bytes n s l p q =
    let nine : 9 ≤ length seen = many_seen old before seen s l in
    let j : 10 - length seen ≡ min n (10 - length seen) = omega arith in
    pad_next old before seen bytes s l p ∙ take_append 10 seen bytes ∙ ap (λ m. take 10 seen ++ take m bytes) j ∙ ap (λ xs. take 10 seen ++ xs) (sym (take_both (10 - length seen) n bytes)) ∙ sym (take_append 10 seen (take n bytes))

-- with ten bytes nothing more is kept
pad_full : (old : Kept) (before seen bytes : List ℕ) → StandsAt old before seen → 10 ≤ length old.head → pad_with old bytes ≡ old.head
pad_full old before seen bytes s l = let z : min old.left (10 - length old.head) ≡ 0 = omega arith in ap (λ j. old.head ++ take j bytes) z ∙ append-nil old.head

pad_fine : (old : Kept) (before seen bytes : List ℕ) → StandsAt old before seen → (length old.head < 10 → IsNoFault (judge old.context (pad_with old bytes))) → IsNoFault (judge old.context (pad_with old bytes))
pad_fine old before seen bytes s h = either (length old.head) 10 h (λ full. subst (λ (xs : List ℕ). IsNoFault (judge old.context xs)) (sym (pad_full old before seen bytes s full)) s.fine)

-- a call with bytes of a payload gives what the definitions say
pub payload_gives : (old : Kept) (p : Position) (bytes : List ℕ) (result : Result FrameFed H2Fault) (new : Kept) → AreBytes bytes → old.fault ≡ None → 9 ≤ length old.head → 0 < old.left → 0 < length bytes → Stands old p → IsPayloadStep old bytes result new → Gives p bytes result new
payload_gives old p bytes (Err f) new k e l q z s h =
    let st = stands_at old p e s in
    let nine : 9 ≤ length p.seen = many_seen old p.before p.seen st l in
    let left : old.left + length p.seen ≡ frame_size p.seen = st.left nine in
    let some : 0 < taken_of p.seen bytes = omega (arith, taken_left old p.before p.seen bytes st nine) in
    let more : List ℕ = take (taken_of p.seen bytes) bytes in
    let long : 9 ≤ length (p.seen ++ take (taken_of p.seen bytes) bytes) = omega (arith, length-append p.seen (take (taken_of p.seen bytes) bytes)) in
    let ten : min 10 (frame_size (p.seen ++ take (taken_of p.seen bytes) bytes)) ≡ 10 = omega (arith, frame_size-append p.seen (take (taken_of p.seen bytes) bytes) nine) in
    let same : judged (p.seen ++ take (taken_of p.seen bytes) bytes) ≡ pad_with old bytes = judged_many (p.seen ++ take (taken_of p.seen bytes) bytes) long ∙ ap (λ j. take j (p.seen ++ take (taken_of p.seen bytes) bytes)) ten ∙ sym (pad_taken old p.before p.seen bytes (taken_of p.seen bytes) st l q some) in
    refused_gives f p bytes new k (ap (λ (x : Kept). x.fault) h.0) (breaks old f p.before p.seen (take (taken_of p.seen bytes) bytes) (AreBytes-take (taken_of p.seen bytes) bytes k) st (ap (judge old.context) same ∙ h.2) h.1)
payload_gives old p bytes (Ok fed) new k e l q z s h =
    let st = stands_at old p e s in
    let n : ℕ = fed.taken in
    let nine : 9 ≤ length p.seen = many_seen old p.before p.seen st l in
    let left : old.left + length p.seen ≡ frame_size p.seen = st.left nine in
    let n_is : fed.taken ≡ min old.left (length bytes) = h.1 in
    let taken : fed.taken ≡ taken_of p.seen bytes = omega (arith, taken_left old p.before p.seen bytes st nine) in
    let still : length p.seen < frame_size p.seen = omega arith in
    let fs = frame_size-append p.seen (take fed.taken bytes) nine in
    let nx : (old.left - fed.taken) + length (p.seen ++ take fed.taken bytes) ≡ frame_size (p.seen ++ take fed.taken bytes) = omega (arith, length-append p.seen (take fed.taken bytes), length-take fed.taken bytes, fs) in
    let now : Kept = record old { head = pad_with old bytes; left = old.left - fed.taken } in
    let at : StandsAt now p.before (p.seen ++ take fed.taken bytes) = record { frames = st.frames; context = st.context; place = st.place; head = pad_taken old p.before p.seen bytes fed.taken st l q h.2; left = λ _. nx; fine = pad_fine old p.before p.seen bytes st h.4; bytes = more_bytes p.before p.seen (take fed.taken bytes) st.bytes (AreBytes-take fed.taken bytes k) } in
    let part : fed.part ≡ part_of p.seen bytes = h.0 ∙ ap (λ j. Some (Piece j)) taken ∙ sym (part_piece p.seen bytes nine still z) in
    let moved : position_by fed.part p (take fed.taken bytes) ≡ record { before = p.before; seen = p.seen ++ take fed.taken bytes } = ap (λ o. position_by o p (take fed.taken bytes)) h.0 in
    subst (Gives p bytes (Ok fed)) (sym h.3) (moves p bytes fed now e at moved taken part)

-- the end of a frame

after_take : (at : Context) (bs : List ℕ) → after at (take 10 bs) ≡ after at bs
after_take at bs = rw (get_or-take 10 bs 3 0 (lit< tt), get_or-take 10 bs 4 0 (lit< tt), get_or-take 10 bs 5 0 (lit< tt), get_or-take 10 bs 6 0 (lit< tt), get_or-take 10 bs 7 0 (lit< tt), get_or-take 10 bs 8 0 (lit< tt)) refl

whole_kept : (old : Kept) (before seen : List ℕ) → StandsAt old before seen → 9 ≤ length seen → length seen ≡ frame_size seen → front (cut before).context seen ≡ Whole seen []
whole_kept old before seen s nine whole = whole_frame (cut before).context seen nine whole (fine_kept old before seen s)

nothing_taken : (seen bytes : List ℕ) → 9 ≤ length seen → length seen ≡ frame_size seen → taken_of seen bytes ≡ 0
nothing_taken seen bytes nine whole = omega (arith, taken_many seen bytes nine)

fine_before : (old : Kept) (p : Position) (bytes : List ℕ) → StandsAt old p.before p.seen → taken_of p.seen bytes ≡ 0 → first_fault (bytes_after p bytes) ≡ None
fine_before old p bytes s z = ap (λ n. first_fault (p.before ++ (p.seen ++ take n bytes))) z ∙ ap (λ xs. first_fault (p.before ++ xs)) (append-nil p.seen) ∙ stands_fine old p.before p.seen s

-- a call at the end of a frame gives what the definitions say
pub last_gives : (old : Kept) (p : Position) (bytes : List ℕ) (result : Result FrameFed H2Fault) (new : Kept) → 9 ≤ length old.head → old.left ≡ 0 → old.fault ≡ None → Stands old p → IsLastStep old result new → Gives p bytes result new
last_gives old p bytes (Err f) new l z e s h = absurd h
last_gives old p bytes (Ok fed) new l z e s h =
    let st = stands_at old p e s in
    let nine : 9 ≤ length p.seen = many_seen old p.before p.seen st l in
    let left : old.left + length p.seen ≡ frame_size p.seen = st.left nine in
    let whole : length p.seen ≡ frame_size p.seen = omega arith in
    let ends : frame_size p.seen ≤ length p.seen = omega arith in
    let w = whole_kept old p.before p.seen st nine whole in
    let c = cut_whole p.before p.seen st.frames w in
    let at : after (cut p.before).context p.seen ≡ after old.context old.head = ap (λ x. after x p.seen) st.context ∙ sym (after_take old.context p.seen) ∙ ap (after old.context) (sym st.head) in
    let size : frame_size old.head ≡ length p.seen = ap frame_size st.head ∙ ap (λ n. 9 + n) (size_take 0 10 p.seen (lit≤ tt)) ∙ sym whole in
    let place : saturated (old.place + frame_size old.head) ≡ saturated (length (p.before ++ p.seen)) = omega (arith, st.place, length-append p.before p.seen) in
    let now : Kept = record { context = after old.context old.head; place = saturated (old.place + frame_size old.head); head = []; left = 0; fault = None } in
    let stands : StandsAt now (p.before ++ p.seen) [] = record { frames = frames_whole p.before p.seen st.frames w; context = ap (λ x. x.context) c ∙ at; place = place; head = refl; left = λ q. absurd (omega arith); fine = nothing_fine (after old.context old.head); bytes = subst AreBytes (sym (append-nil (p.before ++ p.seen))) st.bytes } in
    let none = nothing_taken p.seen bytes nine whole in
    let part : fed.part ≡ part_of p.seen bytes = h.0 ∙ sym (part_done p.seen bytes nine ends) in
    let moved : position_by fed.part p (take fed.taken bytes) ≡ record { before = p.before ++ p.seen; seen = [] } = ap (λ o. position_by o p (take fed.taken bytes)) h.0 in
    let next : Position = record { before = p.before ++ p.seen; seen = [] } in
    let made : Gives p bytes (Ok fed) now = record { stands = subst (Stands now) (sym moved) (standing now next refl stands); answers = answer_ok p bytes fed (fine_before old p bytes st none) (h.1 ∙ sym none) part } in
    subst (Gives p bytes (Ok fed)) (sym h.2) made

-- the frame that ends is the last of the bytes
pub last_frame : (old : Kept) (p : Position) → 9 ≤ length old.head → old.left ≡ 0 → old.fault ≡ None → Stands old p → frames_of (p.before ++ p.seen) ≡ frames_of p.before ++ frame_of p.seen ∷ []
last_frame old p l z e s =
    let st = stands_at old p e s in
    let nine : 9 ≤ length p.seen = many_seen old p.before p.seen st l in
    let left : old.left + length p.seen ≡ frame_size p.seen = st.left nine in
    let whole : length p.seen ≡ frame_size p.seen = omega arith in
    frames_of_whole p.before p.seen st.frames (whole_kept old p.before p.seen st nine whole)

-- no bytes within a payload
pub idle_gives : (old : Kept) (p : Position) (bytes : List ℕ) → old.fault ≡ None → length bytes ≡ 0 → 9 ≤ length old.head → 0 < old.left → Stands old p → Gives p bytes (Ok (record { taken = 0; part = None })) old
idle_gives old p bytes e z l q s =
    let st = stands_at old p e s in
    let nine : 9 ≤ length p.seen = many_seen old p.before p.seen st l in
    let left : old.left + length p.seen ≡ frame_size p.seen = st.left nine in
    let still : length p.seen < frame_size p.seen = omega arith in
    let none : taken_of p.seen bytes ≡ 0 = omega (arith, taken_many p.seen bytes nine) in
    let same : record { before = p.before; seen = p.seen ++ [] } ≡ p = ap (λ xs. record { before = p.before; seen = xs }) (append-nil p.seen) in
    record { stands = subst (Stands old) (sym same) s; answers = answer_ok p bytes (record { taken = 0; part = None }) (fine_before old p bytes st none) (sym none) (sym (part_idle p.seen bytes nine still z)) }

-- a call within a payload gives what the definitions say
pub more_gives : (old : Kept) (p : Position) (bytes : List ℕ) (result : Result FrameFed H2Fault) (new : Kept) → AreBytes bytes → old.fault ≡ None → 9 ≤ length old.head → 0 < old.left → Stands old p → IsMoreStep old bytes result new → Gives p bytes result new
more_gives old p bytes result new k e l q s h = either 0 (length bytes)
    (λ some. payload_gives old p bytes result new k e l q some s (h.1 some))
    (λ none. let z : length bytes ≡ 0 = omega arith in
    let same = h.0 z in
    subst (λ (r : Result FrameFed H2Fault). Gives p bytes r new) (sym same.0) (subst (λ (n : Kept). Gives p bytes (Ok (record { taken = 0; part = None })) n) (sym same.1) (idle_gives old p bytes e z l q s)))

-- what holds anyway holds where a frame has ended
pub if_done : {P : Type 0} (result : Result FrameFed H2Fault) → P → IfOk result (λ fed. fed.part ≡ Some Done → P)
if_done (Ok fed) h = λ _. h
if_done (Err f) h = tt
