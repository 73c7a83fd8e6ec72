-- One call, and the whole stream.
use Rattle.std.proofs.Common.{◌≡◌, ◌≤◌, ◌+◌, ◌-◌, ◌++◌, ℕ, List, [], length, take, arith, refl, sym, ap, subst, ◌∙◌, length-append, append_assoc, drop, ◌∷◌, Option, Some, None, Result, Ok, Err}
use Rattle.std.proofs.Math.Seq.{take-length}
use Rattle.std.proofs.lemmas.List.{take-append-drop, take_rest}
use Rattle.grpc_frames.specs.declared.fault.FrameFault.{FrameFault}
use Rattle.grpc_frames.specs.declared.deframer.Deframed.{Deframed as Fed}
use Rattle.grpc_frames.specs.declared.fault.FrameFault.TheVariants.{Compressed, BadFlag, TooLong, Cut, NoMemory}
use Rattle.grpc_frames.specs.LengthPrefixed.{FramingError, CompressedFlag, ReservedFlag, LengthOverLimit, front, Incomplete, Malformed, Complete, MessageStream, deframed_of}
use Rattle.base.specs.Saturated.{saturated}
use Rattle.grpc_frames.specs.Deframer.{DeframerState, fault_at, UnlessNoMemory, IsFirstFault, StandsUnrefused, StandsByRefusal, Stands}
use Rattle.grpc_frames.specs.FeedAnswers.{fed_bytes, AnswersOk, Answers, IsEndFault}
use Rattle.grpc_frames.specs.DeframerSteps.{IsFed, IsStep}
use Rattle.grpc_frames.proofs.FaultLemmas.{of_bytes_map}
use Rattle.grpc_frames.proofs.SplitLemmas.{complete_length, deframed_of_ends, Ends, fed_incomplete, fed_malformed, fed_complete, stays_malformed}

-- what a call gives, by the whole stream
pub record Gives (old : DeframerState) (r bytes : List ℕ) (result : Result Fed FrameFault) (new : DeframerState) : Type 0 where
  pub stands : Stands new (r ++ fed_bytes result bytes)
  pub answers : Answers old.limit r bytes result

-- without a refusal the relation is that of the bytes
stands_whole : (kept : DeframerState) (bytes : List ℕ) → kept.refused ≡ None → StandsUnrefused kept bytes → Stands kept bytes
stands_whole kept bytes e h = record { by = subst (λ o. StandsByRefusal o kept bytes) (sym e) h }

-- and the other way
whole_stands : (kept : DeframerState) (bytes : List ℕ) → kept.refused ≡ None → Stands kept bytes → StandsUnrefused kept bytes
whole_stands kept bytes e h = subst (λ o. StandsByRefusal o kept bytes) e h.by

-- the place of the flag stays while the message grows
place_short : (p r rest more : ℕ) → p ≡ saturated (r - rest) → p ≡ saturated ((r + more) - (rest + more))
place_short p r rest more e = omega arith

-- the place of the next flag
place_whole : (p r rest t m : ℕ) → p ≡ saturated (r - rest) → rest ≤ r → rest + t ≡ 5 + m → saturated (p + 5 + m) ≡ saturated ((r + t) - 0)
place_whole p r rest t m e l h = omega arith

-- no more is kept than came
rest_within : (old : DeframerState) (r : List ℕ) → StandsUnrefused old r → length old.rest ≤ length r
rest_within old r s = let e : Ends old.limit (length r) (deframed_of old.limit r) = deframed_of_ends old.limit r in let q : length (deframed_of old.limit r).rest ≡ length old.rest = ap length s.rest in omega arith

-- bytes that complete no message only lengthen the rest
fed_none : (old : DeframerState) (r bytes : List ℕ) → StandsUnrefused old r → front old.limit (old.rest ++ bytes) ≡ Incomplete
    → deframed_of old.limit (r ++ bytes) ≡ record { messages = (deframed_of old.limit r).messages; rest = (deframed_of old.limit r).rest ++ bytes; error = None }
fed_none old r bytes s h = fed_incomplete old.limit r bytes (ap (λ xs. front old.limit (xs ++ bytes)) s.rest ∙ h)

-- the place after such bytes
none_place : (old : DeframerState) (r bytes : List ℕ) → StandsUnrefused old r → old.place ≡ saturated (length (r ++ bytes) - length (old.rest ++ bytes))
none_place old r bytes s = rw (length-append r bytes, length-append old.rest bytes) (place_short old.place (length r) (length old.rest) (length bytes) s.place)

-- the place after a message
some_place : (old : DeframerState) (r more m : List ℕ) → StandsUnrefused old r → front old.limit (old.rest ++ more) ≡ Complete m [] → saturated (old.place + 5 + length m) ≡ saturated (length (r ++ more) - 0)
some_place old r more m s h =
    let l : length (old.rest ++ more) ≡ 5 + length m + 0 = complete_length old.limit (old.rest ++ more) m [] h in
    let k : length old.rest + length more ≡ 5 + length m = omega (arith, length-append old.rest more) in
    rw (length-append r more) (place_whole old.place (length r) (length old.rest) (length more) (length m) s.place (rest_within old r s) k)

-- a call that answers Ok gives what the whole stream says
fed_gives : (old : DeframerState) (r bytes : List ℕ) (n : ℕ) (o : Option (List ℕ)) (new : DeframerState) → old.refused ≡ None → StandsUnrefused old r → IsFed old bytes n o new → Stands new (r ++ take n bytes) × AnswersOk old.limit r bytes n o
fed_gives old r bytes n None new e s h =
    let d = fed_none old r bytes s h.2 in
    let all : take n bytes ≡ bytes = ap (λ k. take k bytes) h.0 ∙ take-length bytes in
    (rw (h.1, all) (stands_whole (record old { rest = old.rest ++ bytes }) (r ++ bytes) e (record { rest = ap (λ x. x.rest) d ∙ ap (λ xs. xs ++ bytes) s.rest; error = ap (λ x. x.error) d; place = none_place old r bytes s })), (h.0, d))
fed_gives old r bytes n (Some m) new e s h =
    let d = fed_complete old.limit r (take n bytes) m (ap (λ xs. front old.limit (xs ++ take n bytes)) s.rest ∙ h.2) in
    (rw (h.1) (stands_whole (record { limit = old.limit; place = saturated (old.place + 5 + length m); rest = []; refused = None }) (r ++ take n bytes) refl (record { rest = ap (λ x. x.rest) d; error = ap (λ x. x.error) d; place = some_place old r (take n bytes) m s h.2 })), (h.0, d))

-- no further message, and the first fault of the longer stream
abbrev pub Refuses : ℕ → List ℕ → List ℕ → FrameFault → Type 0
Refuses limit r bytes f = ((deframed_of limit (r ++ bytes)).messages ≡ (deframed_of limit r).messages) × IsFirstFault (deframed_of limit (r ++ bytes)) (length (r ++ bytes)) f

-- a rest that grows as the stream does begins at the same place
same_place : (r bytes rest : List ℕ) → length r - length rest ≡ length (r ++ bytes) - length (rest ++ bytes)
same_place r bytes rest = rw (length-append r bytes, length-append rest bytes) (omega arith)

-- so its fault keeps its place
fault_place : (d : MessageStream) (r bytes rest : List ℕ) (w : FramingError) (f : FrameFault) → d.rest ≡ rest ++ bytes → f ≡ fault_at (saturated (length r - length rest)) w → f ≡ fault_at (saturated (length (r ++ bytes) - length d.rest)) w
fault_place d r bytes rest w f e h = h ∙ ap (λ n. fault_at (saturated n) w) (same_place r bytes rest ∙ ap (λ xs. length (r ++ bytes) - length xs) (sym e))

-- an error at the front of the kept bytes is that of the whole stream
malformed_gives : (old : DeframerState) (r bytes : List ℕ) (f : FrameFault) → StandsUnrefused old r → ((w : FramingError) × (front old.limit (old.rest ++ bytes) ≡ Malformed w) × (f ≡ fault_at old.place w)) → Refuses old.limit r bytes f
malformed_gives old r bytes f s h =
    let d = fed_malformed old.limit r bytes h.0 (ap (λ xs. front old.limit (xs ++ bytes)) s.rest ∙ h.1) in (
      ap (λ x. x.messages) d,
      record {
        error = h.0;
        error_is = ap (λ x. x.error) d;
        fault_is = fault_place (deframed_of old.limit (r ++ bytes)) r bytes (deframed_of old.limit r).rest h.0 f (ap (λ x. x.rest) d) (h.2 ∙ ap (λ p. fault_at p h.0) (s.place ∙ ap (λ xs. saturated (length r - length xs)) (sym s.rest)));
      },
    )

-- an error stays the error of each longer stream
pub stuck_gives : (limit : ℕ) (r bytes : List ℕ) (f : FrameFault) → IsFirstFault (deframed_of limit r) (length r) f → Refuses limit r bytes f
stuck_gives limit r bytes f h =
    let d = stays_malformed limit r bytes h.error h.error_is in (
      ap (λ x. x.messages) d,
      record {
        error = h.error;
        error_is = ap (λ x. x.error) d;
        fault_is = fault_place (deframed_of limit (r ++ bytes)) r bytes (deframed_of limit r).rest h.error f (ap (λ x. x.rest) d) h.fault_is;
      },
    )

-- a deframer that keeps a refusal stands for each longer stream
refused_stands : (limit : ℕ) (r bytes : List ℕ) (f : FrameFault) (new : DeframerState) → new.refused ≡ Some f → new.limit ≡ limit → UnlessNoMemory f (Refuses limit r bytes f) → Stands new (r ++ bytes)
refused_stands limit r bytes f new e l h = record { by = subst (λ o. StandsByRefusal o new (r ++ bytes)) (sym e) (subst (λ k. UnlessNoMemory f (IsFirstFault (deframed_of k (r ++ bytes)) (length (r ++ bytes)) f)) (sym l) (of_bytes_map f (λ (x : Refuses limit r bytes f). x.1) h)) }

-- a call where nothing was refused
pub step_gives : (old : DeframerState) (r bytes : List ℕ) (result : Result Fed FrameFault) (new : DeframerState) → old.refused ≡ None → IsStep old bytes result new → Stands old r → Gives old r bytes result new
step_gives old r bytes (Ok d) new e h s = let g = fed_gives old r bytes d.taken d.message new e (whole_stands old r e s) h in record { stands = g.0; answers = g.1 }
step_gives old r bytes (Err f) new e h s =
    let g : UnlessNoMemory f (Refuses old.limit r bytes f) = of_bytes_map f (malformed_gives old r bytes f (whole_stands old r e s)) h.2 in
    record { stands = refused_stands old.limit r bytes f new h.0 h.1 g; answers = g }

-- a call where something was refused
pub stuck_step : (old : DeframerState) (r bytes : List ℕ) (f : FrameFault) → old.refused ≡ Some f → Stands old r → Gives old r bytes (Err f) old
stuck_step old r bytes f e s =
    let g : UnlessNoMemory f (Refuses old.limit r bytes f) = of_bytes_map f (stuck_gives old.limit r bytes f) (subst (λ o. StandsByRefusal o old r) e s.by) in
    record { stands = refused_stands old.limit r bytes f old e refl g; answers = g }

-- no error of the bytes is a cut
never_cut : (p q : ℕ) (w : FramingError) → Cut p ≡ fault_at q w → ⊥
never_cut p q CompressedFlag e = cc
never_cut p q ReservedFlag e = cc
never_cut p q (LengthOverLimit n) e = cc

-- what a call refuses is wrong with the stream that ends there
end_fault : (P : Type 0) (limit : ℕ) (bytes : List ℕ) (f : FrameFault) → UnlessNoMemory f (P × IsFirstFault (deframed_of limit bytes) (length bytes) f) → IsEndFault limit bytes f
end_fault P limit bytes NoMemory h = tt
end_fault P limit bytes (Compressed p) h = h.1
end_fault P limit bytes (BadFlag p) h = h.1
end_fault P limit bytes (TooLong p n) h = h.1
end_fault P limit bytes (Cut p) h = absurd (never_cut p _ _ h.1.fault_is)

-- a refusal is that of every stream that goes on from there
pub refused_end : (kept : DeframerState) (r more : List ℕ) (f : FrameFault) → kept.refused ≡ Some f → Stands kept r → IsEndFault kept.limit (r ++ more) f
refused_end kept r more f e s = end_fault _ kept.limit (r ++ more) f (stuck_step kept r more f e s).answers

-- a refusal within a piece is that of the whole stream
pub refused_piece : (old kept : DeframerState) (r taken rest piece more : List ℕ) (f : FrameFault) → taken ++ rest ≡ piece
    → kept.limit ≡ old.limit → kept.refused ≡ Some f → Stands kept ((r ++ taken) ++ rest) → IsEndFault old.limit (r ++ (piece ++ more)) f
refused_piece old kept r taken rest piece more f e l h s =
    let join : ((r ++ taken) ++ rest) ++ more ≡ r ++ (piece ++ more) =
    append_assoc (r ++ taken) rest more ∙ append_assoc r taken (rest ++ more)
    ∙ ap (λ (xs : List ℕ). r ++ xs) (sym (append_assoc taken rest more) ∙ ap (λ (xs : List ℕ). xs ++ more) e) in
    subst (λ (xs : List ℕ). IsEndFault old.limit xs f) join
    (subst (λ (k : ℕ). IsEndFault k (((r ++ taken) ++ rest) ++ more) f) l (refused_end kept ((r ++ taken) ++ rest) more f h s))

-- the last bytes of a piece complete no message
pub piece_ends : (old kept new : DeframerState) (r taken rest piece : List ℕ) (out : List (List ℕ)) (fed : Fed) → taken ++ rest ≡ piece
    → kept.limit ≡ old.limit → fed.message ≡ None → Stands new ((r ++ taken) ++ take fed.taken rest)
    → AnswersOk kept.limit (r ++ taken) rest fed.taken fed.message → (deframed_of old.limit (r ++ taken)).messages ≡ out
    → Stands new (r ++ piece) × ((deframed_of old.limit (r ++ piece)).messages ≡ out)
piece_ends old kept new r taken rest piece out fed e l none s a told =
    let h = subst (λ (o : Option (List ℕ)). AnswersOk kept.limit (r ++ taken) rest fed.taken o) none a in
    let all : take fed.taken rest ≡ rest = ap (λ k. take k rest) h.0 ∙ take-length rest in
    let join : (r ++ taken) ++ rest ≡ r ++ piece = append_assoc r taken rest ∙ ap (λ (xs : List ℕ). r ++ xs) e in (
      subst (Stands new) (ap (λ (xs : List ℕ). (r ++ taken) ++ xs) all ∙ join) s,
      ap (λ (xs : List ℕ). (deframed_of old.limit xs).messages) (sym join)
          ∙ ap (λ (k : ℕ). (deframed_of k ((r ++ taken) ++ rest)).messages) (sym l)
          ∙ ap (λ (d : MessageStream). d.messages) h.1
          ∙ ap (λ (k : ℕ). (deframed_of k (r ++ taken)).messages) l ∙ told,
    )

-- bytes of a piece that complete a message
pub piece_goes_on : (old kept new : DeframerState) (r taken rest : List ℕ) (out next : List (List ℕ)) (fed : Fed) (m : List ℕ)
    → kept.limit ≡ old.limit → fed.message ≡ Some m → next ≡ out ++ m ∷ [] → Stands new ((r ++ taken) ++ take fed.taken rest)
    → AnswersOk kept.limit (r ++ taken) rest fed.taken fed.message → (deframed_of old.limit (r ++ taken)).messages ≡ out
    → Stands new (r ++ (taken ++ take fed.taken rest)) × ((deframed_of old.limit (r ++ (taken ++ take fed.taken rest))).messages ≡ next)
piece_goes_on old kept new r taken rest out next fed m l some more s a told =
    let h = subst (λ (o : Option (List ℕ)). AnswersOk kept.limit (r ++ taken) rest fed.taken o) some a in
    let join : (r ++ taken) ++ take fed.taken rest ≡ r ++ (taken ++ take fed.taken rest) = append_assoc r taken (take fed.taken rest) in (
      subst (Stands new) join s,
      ap (λ (xs : List ℕ). (deframed_of old.limit xs).messages) (sym join)
          ∙ ap (λ (k : ℕ). (deframed_of k ((r ++ taken) ++ take fed.taken rest)).messages) (sym l)
          ∙ ap (λ (d : MessageStream). d.messages) h.1
          ∙ ap (λ (xs : List (List ℕ)). xs ++ m ∷ []) (ap (λ (k : ℕ). (deframed_of k (r ++ taken)).messages) l ∙ told) ∙ sym more,
    )

-- what is left of a piece behind what was taken
pub piece_left : (taken rest piece : List ℕ) (n : ℕ) → taken ++ rest ≡ piece → (taken ++ take n rest) ++ take (length rest - n) (drop n rest) ≡ piece
piece_left taken rest piece n e =
    append_assoc taken (take n rest) (take (length rest - n) (drop n rest))
    ∙ ap (λ (xs : List ℕ). taken ++ xs) (ap (λ (ys : List ℕ). take n rest ++ ys) (take_rest rest n) ∙ take-append-drop n rest) ∙ e
