-- A stream is read the same in pieces.
use Rattle.std.proofs.Common.{◌≡◌, ◌≤◌, ◌+◌, ◌-◌, ◌++◌, ℕ, zero, suc, List, [], ◌∷◌, length, take, drop, arith, refl, sym, ap, ap₂, subst, ◌∙◌, length-append, length-drop, length-take, min, Some, None, append-nil}
use Rattle.std.proofs.lemmas.List.{take-append-le, drop-append-le}
use Rattle.grpc_frames.specs.LengthPrefixed.{FramingError, Sized, Front, Incomplete, Malformed, Complete, front, MessageStream, after_messages, continued, deframed_within, deframed_of, BeginsBy}
use Rattle.grpc_frames.proofs.FrontLemmas.{IsComplete, front_complete, complete_front, prefix_of_grows, malformed_grows}

-- a whole message stays, whatever comes behind it
pub complete_grows : (limit : ℕ) (bs more m rest : List ℕ) → front limit bs ≡ Complete m rest → front limit (bs ++ more) ≡ Complete m (rest ++ more)
complete_grows limit bs more m rest e =
    let w : IsComplete limit bs m rest = front_complete limit bs m rest e in
    let n : ℕ = w.size in
    let l : 5 + n ≤ length (bs ++ more) = simp length-append (omega arith) in
    let five : 5 ≤ length bs = omega arith in
    let k : n ≤ length (drop 5 bs) = simp length-drop (omega arith) in
    let all : 5 + n ≤ length bs = w.enough in
    complete_front limit (bs ++ more) n (prefix_of_grows limit bs more (Sized n) w.prefix_is tt) l
    ∙ ap₂ Complete (ap (take n) (drop-append-le 5 bs more five) ∙ take-append-le n (drop 5 bs) more k ∙ sym w.message_is) (drop-append-le (5 + n) bs more all ∙ ap (λ xs. xs ++ more) (sym w.rest_is))

-- a message takes at least five bytes
pub complete_length : (limit : ℕ) (bs m rest : List ℕ) → front limit bs ≡ Complete m rest → length bs ≡ 5 + length m + length rest
complete_length limit bs m rest e =
    let w : IsComplete limit bs m rest = front_complete limit bs m rest e in
    let k : w.size ≤ length (drop 5 bs) = simp length-drop (omega arith) in
    let a : length m ≡ min w.size (length (drop 5 bs)) = ap length w.message_is ∙ length-take w.size (drop 5 bs) in
    let b : length rest ≡ length bs - (5 + w.size) = ap length w.rest_is ∙ length-drop (5 + w.size) bs in
    omega arith

-- two ways to go on that agree on what is left
continued_same : (go to : List ℕ → MessageStream) (bs : List ℕ) (x : Front) → ((m rest : List ℕ) → x ≡ Complete m rest → go rest ≡ to rest) → continued go bs x ≡ continued to bs x
continued_same go to bs Incomplete h = refl
continued_same go to bs (Malformed w) h = refl
continued_same go to bs (Complete m rest) h = ap (after_messages (m ∷ [])) (h m rest refl)

-- no bytes have no message
nothing : (k limit : ℕ) → deframed_within k limit [] ≡ record { messages = []; rest = []; error = None }
unfolding deframed_within
nothing zero limit = refl
nothing (suc k) limit = refl

-- more fuel changes nothing
enough : (j k limit : ℕ) (bs : List ℕ) → length bs ≤ j → length bs ≤ k → deframed_within j limit bs ≡ deframed_within k limit bs
unfolding deframed_within
enough j k limit [] p q = nothing j limit ∙ sym (nothing k limit)
enough zero k limit (f ∷ bs) p q = absurd (omega arith)
enough (suc j) zero limit (f ∷ bs) p q = absurd (omega arith)
enough (suc j) (suc k) limit (f ∷ bs) p q = continued_same _ _ (f ∷ bs) (front limit (f ∷ bs)) (λ m rest e.
    let l : length (f ∷ bs) ≡ 5 + length m + length rest = complete_length limit (f ∷ bs) m rest e in
    enough j k limit rest (omega arith) (omega arith))

-- one level of the definition
pub deframed_of_is : (limit : ℕ) (bs : List ℕ) → deframed_of limit bs ≡ continued (deframed_of limit) bs (front limit bs)
unfolding deframed_of deframed_within
deframed_of_is limit [] = refl
deframed_of_is limit (f ∷ bs) = continued_same _ _ (f ∷ bs) (front limit (f ∷ bs)) (λ m rest e.
    let l : length (f ∷ bs) ≡ 5 + length m + length rest = complete_length limit (f ∷ bs) m rest e in
    enough (length bs) (length rest) limit rest (omega arith) (omega arith))

-- one level of the definition, at a front that is known
pub deframed_of_at : (limit : ℕ) (bs : List ℕ) (x : Front) → front limit bs ≡ x → deframed_of limit bs ≡ continued (deframed_of limit) bs x
deframed_of_at limit bs x h = deframed_of_is limit bs ∙ ap (continued (deframed_of limit) bs) h

-- a stream that goes on is read from its rest
abbrev Appends : ℕ → List ℕ → List ℕ → MessageStream → Type 0
Appends limit bs more d = deframed_of limit (bs ++ more) ≡ after_messages d.messages (deframed_of limit (d.rest ++ more))

-- one message more
append_step : (limit : ℕ) (bs more : List ℕ) (x : Front) → front limit bs ≡ x → ((m rest : List ℕ) → x ≡ Complete m rest → Appends limit rest more (deframed_of limit rest)) → Appends limit bs more (deframed_of limit bs)
append_step limit bs more Incomplete h k = subst (Appends limit bs more) (sym (deframed_of_at limit bs Incomplete h)) refl
append_step limit bs more (Malformed w) h k = subst (Appends limit bs more) (sym (deframed_of_at limit bs (Malformed w) h)) refl
append_step limit bs more (Complete m rest) h k = subst (Appends limit bs more) (sym (deframed_of_at limit bs (Complete m rest) h))
    (deframed_of_at limit (bs ++ more) (Complete m (rest ++ more)) (complete_grows limit bs more m rest h) ∙ ap (after_messages (m ∷ [])) (k m rest refl))

-- for at most j bytes
append_within : (j limit : ℕ) (bs more : List ℕ) → length bs ≤ j → Appends limit bs more (deframed_of limit bs)
append_within zero limit bs more p = append_step limit bs more (front limit bs) refl (λ m rest e.
    let l : length bs ≡ 5 + length m + length rest = complete_length limit bs m rest e in absurd (omega arith))
append_within (suc j) limit bs more p = append_step limit bs more (front limit bs) refl (λ m rest e.
    let l : length bs ≡ 5 + length m + length rest = complete_length limit bs m rest e in append_within j limit rest more (omega arith))

-- reading goes on from the rest
pub deframed_of-append : (limit : ℕ) (bs more : List ℕ) → deframed_of limit (bs ++ more) ≡ after_messages (deframed_of limit bs).messages (deframed_of limit ((deframed_of limit bs).rest ++ more))
deframed_of-append limit bs more = append_within (length bs) limit bs more (omega arith)

-- what is left begins by its error, and is no longer than the bytes
pub record Ends (limit size : ℕ) (d : MessageStream) : Type 0 where
  pub by : BeginsBy limit d.error d.rest
  pub shorter : length d.rest ≤ size

-- one message more
ends_step : (limit : ℕ) (bs : List ℕ) (x : Front) → front limit bs ≡ x → ((m rest : List ℕ) → x ≡ Complete m rest → Ends limit (length rest) (deframed_of limit rest)) → Ends limit (length bs) (deframed_of limit bs)
ends_step limit bs Incomplete h k = subst (Ends limit (length bs)) (sym (deframed_of_at limit bs Incomplete h)) (record { by = h; shorter = omega arith })
ends_step limit bs (Malformed w) h k = subst (Ends limit (length bs)) (sym (deframed_of_at limit bs (Malformed w) h)) (record { by = h; shorter = omega arith })
ends_step limit bs (Complete m rest) h k =
    let l : length bs ≡ 5 + length m + length rest = complete_length limit bs m rest h in
    let e : Ends limit (length rest) (deframed_of limit rest) = k m rest refl in
    subst (Ends limit (length bs)) (sym (deframed_of_at limit bs (Complete m rest) h)) (record { by = e.by; shorter = omega arith })

-- for at most j bytes
ends_within : (j limit : ℕ) (bs : List ℕ) → length bs ≤ j → Ends limit (length bs) (deframed_of limit bs)
ends_within zero limit bs p = ends_step limit bs (front limit bs) refl (λ m rest e.
    let l : length bs ≡ 5 + length m + length rest = complete_length limit bs m rest e in absurd (omega arith))
ends_within (suc j) limit bs p = ends_step limit bs (front limit bs) refl (λ m rest e.
    let l : length bs ≡ 5 + length m + length rest = complete_length limit bs m rest e in ends_within j limit rest (omega arith))

-- what is left begins with what is error, or with no whole message
pub deframed_of_ends : (limit : ℕ) (bs : List ℕ) → Ends limit (length bs) (deframed_of limit bs)
deframed_of_ends limit bs = ends_within (length bs) limit bs (omega arith)

-- the bytes behind a stream, by the front of its rest with them
next_step : (limit : ℕ) (r more : List ℕ) (x : Front) → front limit ((deframed_of limit r).rest ++ more) ≡ x → deframed_of limit (r ++ more) ≡ after_messages (deframed_of limit r).messages (continued (deframed_of limit) ((deframed_of limit r).rest ++ more) x)
next_step limit r more x h = deframed_of-append limit r more ∙ ap (after_messages (deframed_of limit r).messages) (deframed_of_at limit _ x h)

-- bytes that complete no message
pub fed_incomplete : (limit : ℕ) (r more : List ℕ) → front limit ((deframed_of limit r).rest ++ more) ≡ Incomplete
    → deframed_of limit (r ++ more) ≡ record { messages = (deframed_of limit r).messages; rest = (deframed_of limit r).rest ++ more; error = None }
fed_incomplete limit r more h = next_step limit r more Incomplete h ∙ ap (λ ms. record { messages = ms; rest = (deframed_of limit r).rest ++ more; error = None }) (append-nil (deframed_of limit r).messages)

-- bytes that show an error
pub fed_malformed : (limit : ℕ) (r more : List ℕ) (w : FramingError) → front limit ((deframed_of limit r).rest ++ more) ≡ Malformed w
    → deframed_of limit (r ++ more) ≡ record { messages = (deframed_of limit r).messages; rest = (deframed_of limit r).rest ++ more; error = Some w }
fed_malformed limit r more w h = next_step limit r more (Malformed w) h ∙ ap (λ ms. record { messages = ms; rest = (deframed_of limit r).rest ++ more; error = Some w }) (append-nil (deframed_of limit r).messages)

-- the stream of no bytes
empty : (limit : ℕ) → deframed_of limit [] ≡ record { messages = []; rest = []; error = None }
unfolding deframed_of deframed_within
empty limit = refl

-- bytes that complete a message
pub fed_complete : (limit : ℕ) (r more m : List ℕ) → front limit ((deframed_of limit r).rest ++ more) ≡ Complete m []
    → deframed_of limit (r ++ more) ≡ record { messages = (deframed_of limit r).messages ++ m ∷ []; rest = []; error = None }
fed_complete limit r more m h = next_step limit r more (Complete m []) h ∙ ap (λ d. after_messages (deframed_of limit r).messages (after_messages (m ∷ []) d)) (empty limit)

-- an error stays, whatever comes
pub stays_malformed : (limit : ℕ) (r more : List ℕ) (w : FramingError) → (deframed_of limit r).error ≡ Some w
    → deframed_of limit (r ++ more) ≡ record { messages = (deframed_of limit r).messages; rest = (deframed_of limit r).rest ++ more; error = Some w }
stays_malformed limit r more w h = fed_malformed limit r more w (malformed_grows limit (deframed_of limit r).rest more w (subst (λ o. BeginsBy limit o (deframed_of limit r).rest) h (deframed_of_ends limit r).by))

-- the stream of no bytes
pub deframed_of_nothing : (limit : ℕ) → deframed_of limit [] ≡ record { messages = []; rest = []; error = None }
deframed_of_nothing limit = empty limit
