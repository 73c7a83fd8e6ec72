-- What is read is what was framed.
use Rattle.std.proofs.Common.{◌≡◌, ◌≤◌, ◌+◌, ◌++◌, ◌==◌, ℕ, suc, zero, Bool, true, false, List, [], ◌∷◌, length, drop, cond, min, arith, refl, sym, ap, ap₂, subst, ◌∙◌, length-drop, length-take, lit<, append_assoc}
use Rattle.std.proofs.lemmas.Bool.{eqb-true}
use Rattle.std.proofs.lemmas.List.{take-append-drop, drop-drop}
use Rattle.std.proofs.lemmas.Nat.{be_bytes_4}
use Rattle.std.specs.Int.{w32, to_be_bytes}
use Rattle.base.specs.Bytes.{AreBytes}
use Rattle.grpc_frames.specs.LengthPrefixed.{length_prefixed, all_length_prefixed, FramingError, CompressedFlag, ReservedFlag, LengthOverLimit, BadPrefix, Sized, big_endian, sized_prefix, prefix_of, Front, Incomplete, Malformed, Complete, front, MessageStream, deframed_of}
use Rattle.grpc_frames.proofs.FrontLemmas.{IsComplete, front_complete}
use Rattle.grpc_frames.proofs.SplitLemmas.{complete_length, deframed_of_at}

-- a test that chose a length
number_step : (b : Bool) (k n : ℕ) → cond b (BadPrefix (LengthOverLimit k)) (Sized k) ≡ Sized n → k ≡ n
number_step true k n e = absurd (cc)
number_step false k n e = cc

-- the four bytes of a length are bytes
within : (a b c d : ℕ) (bs : List ℕ) → AreBytes (a ∷ b ∷ c ∷ d ∷ bs) → AreBytes (a ∷ b ∷ c ∷ d ∷ [])
within a b c d bs k zero = k zero
within a b c d bs k (suc zero) = k 1
within a b c d bs k (suc (suc zero)) = k 2
within a b c d bs k (suc (suc (suc zero))) = k 3
within a b c d bs k (suc (suc (suc (suc i)))) = lit< tt

-- a length that was read is written the same
four : (a b c d : ℕ) (bs : List ℕ) (n : ℕ) → AreBytes (a ∷ b ∷ c ∷ d ∷ bs) → big_endian a b c d ≡ n → to_be_bytes w32 n ≡ a ∷ b ∷ c ∷ d ∷ []
four a b c d bs n k e = be_bytes_4 (a ∷ b ∷ c ∷ d ∷ []) n refl (within a b c d bs k) (sym e)

-- the bytes behind a flag of 0
size_bytes : (limit : ℕ) (bs : List ℕ) (n : ℕ) → AreBytes bs → sized_prefix limit bs ≡ Sized n → bs ≡ to_be_bytes w32 n ++ drop 4 bs
size_bytes limit [] n k e = absurd (cc)
size_bytes limit (a ∷ []) n k e = absurd (cc)
size_bytes limit (a ∷ b ∷ []) n k e = absurd (cc)
size_bytes limit (a ∷ b ∷ c ∷ []) n k e = absurd (cc)
size_bytes limit (a ∷ b ∷ c ∷ d ∷ bs) n k e = ap (λ xs. xs ++ bs) (sym (four a b c d bs n k (number_step _ _ n e)))

-- a bad flag is no length
bad_step : (b : Bool) (w v : FramingError) (n : ℕ) → cond b (BadPrefix w) (BadPrefix v) ≡ Sized n → ⊥
bad_step true w v n e = cc
bad_step false w v n e = cc

-- a test that chose flag 0
prefix_step : (limit f : ℕ) (bs : List ℕ) (n : ℕ) (b c : Bool) → (b ≡ true → f ≡ 0) → AreBytes bs → cond b (sized_prefix limit bs) (cond c (BadPrefix CompressedFlag) (BadPrefix ReservedFlag)) ≡ Sized n → f ∷ bs ≡ 0 ∷ (to_be_bytes w32 n ++ drop 4 bs)
prefix_step limit f bs n true c p k e = ap₂ (λ x xs. x ∷ xs) (p refl) (size_bytes limit bs n k e)
prefix_step limit f bs n false c p k e = absurd (bad_step c _ _ n e)

-- the five bytes of a prefix
prefix_of_bytes : (limit : ℕ) (bs : List ℕ) (n : ℕ) → AreBytes bs → prefix_of limit bs ≡ Sized n → bs ≡ 0 ∷ (to_be_bytes w32 n ++ drop 5 bs)
prefix_of_bytes limit [] n k e = absurd (cc)
prefix_of_bytes limit (f ∷ bs) n k e = prefix_step limit f bs n (f == 0) (f == 1) (eqb-true f 0) (λ i. k (suc i)) e

-- the lesser of two
min_left : (a b : ℕ) → a ≤ b → min a b ≡ a
min_left a b h = omega arith

-- a whole message is framed so
front_bytes : (limit : ℕ) (bs m rest : List ℕ) → AreBytes bs → front limit bs ≡ Complete m rest → bs ≡ length_prefixed m ++ rest
front_bytes limit bs m rest k e =
    let w : IsComplete limit bs m rest = front_complete limit bs m rest e in
    let l : w.size ≤ length (drop 5 bs) = simp length-drop (omega arith) in
    let n : length m ≡ w.size = ap length w.message_is ∙ length-take w.size (drop 5 bs) ∙ min_left w.size (length (drop 5 bs)) l in
    let tail : drop 5 bs ≡ m ++ rest = sym (take-append-drop w.size (drop 5 bs)) ∙ ap₂ (λ xs ys. xs ++ ys) (sym w.message_is) (drop-drop w.size 5 bs ∙ sym w.rest_is) in
    prefix_of_bytes limit bs w.size k w.prefix_is ∙ ap (λ xs. 0 ∷ (to_be_bytes w32 w.size ++ xs)) tail ∙ ap (λ j. 0 ∷ (to_be_bytes w32 j ++ (m ++ rest))) (sym n) ∙ ap (λ xs. 0 ∷ xs) (sym (append_assoc (to_be_bytes w32 (length m)) m rest))

-- a part of bytes is bytes
tail_bytes : (front rest : List ℕ) → AreBytes (front ++ rest) → AreBytes rest
tail_bytes [] rest k = k
tail_bytes (x ∷ xs) rest k = tail_bytes xs rest (λ i. k (suc i))

-- bytes are the messages of a stream, framed, and its rest
abbrev IsJoined : List ℕ → MessageStream → Type 0
IsJoined bs d = bs ≡ all_length_prefixed d.messages ++ d.rest

-- one message more
joined_step : (limit : ℕ) (bs : List ℕ) (x : Front) → front limit bs ≡ x → AreBytes bs → ((m rest : List ℕ) → x ≡ Complete m rest → AreBytes rest → IsJoined rest (deframed_of limit rest)) → IsJoined bs (deframed_of limit bs)
joined_step limit bs Incomplete h k i = subst (IsJoined bs) (sym (deframed_of_at limit bs Incomplete h)) refl
joined_step limit bs (Malformed w) h k i = subst (IsJoined bs) (sym (deframed_of_at limit bs (Malformed w) h)) refl
joined_step limit bs (Complete m rest) h k i =
    let e : bs ≡ length_prefixed m ++ rest = front_bytes limit bs m rest k h in
    let r : AreBytes rest = tail_bytes (length_prefixed m) rest (subst AreBytes e k) in
    subst (IsJoined bs) (sym (deframed_of_at limit bs (Complete m rest) h))
    (e ∙ ap (λ xs. length_prefixed m ++ xs) (i m rest refl r) ∙ sym (append_assoc (length_prefixed m) (all_length_prefixed (deframed_of limit rest).messages) (deframed_of limit rest).rest))

-- for at most j bytes
joined_within : (j limit : ℕ) (bs : List ℕ) → length bs ≤ j → AreBytes bs → IsJoined bs (deframed_of limit bs)
joined_within zero limit bs p k = joined_step limit bs (front limit bs) refl k (λ m rest e r.
    let l : length bs ≡ 5 + length m + length rest = complete_length limit bs m rest e in absurd (omega arith))
joined_within (suc j) limit bs p k = joined_step limit bs (front limit bs) refl k (λ m rest e r.
    let l : length bs ≡ 5 + length m + length rest = complete_length limit bs m rest e in joined_within j limit rest (omega arith) r)

-- the bytes are the messages, framed, and the rest
pub deframed_of_joined : (limit : ℕ) (bs : List ℕ) → AreBytes bs → bs ≡ all_length_prefixed (deframed_of limit bs).messages ++ (deframed_of limit bs).rest
deframed_of_joined limit bs k = joined_within (length bs) limit bs (omega arith) k
