-- Messages that are read are within the limit.
use Rattle.std.proofs.Common.{◌≡◌, ◌==◌, ◌≤◌, ◌+◌, ℕ, zero, suc, Bool, true, false, List, [], ◌∷◌, length, drop}
use Rattle.std.proofs.Common.{cond, min, arith, refl, sym, ap, subst, ◌∙◌, length-take}
use Rattle.std.proofs.lemmas.Bool.{ltb-false}
use Rattle.std.specs.List.{AllByRecursion}
use Rattle.grpc_frames.specs.LengthPrefixed.{LengthOverLimit, BadPrefix, Sized, big_endian}
use Rattle.grpc_frames.specs.LengthPrefixed.{CompressedFlag, ReservedFlag, sized_prefix, prefix_of}
use Rattle.grpc_frames.specs.LengthPrefixed.{Front, Incomplete, Malformed, Complete, front, MessageStream, deframed_of}
use Rattle.grpc_frames.proofs.FrontLemmas.{IsComplete, front_complete}
use Rattle.grpc_frames.proofs.SplitLemmas.{complete_length, deframed_of_at}

-- a test that chose a length
length_step : (limit k n : ℕ) (b : Bool) → (b ≡ false → k ≤ limit)
    → cond b (BadPrefix (LengthOverLimit k)) (Sized k) ≡ Sized n → n ≤ limit
length_step limit k n true h e = absurd (cc)
length_step limit k n false h e = let same : k ≡ n = cc in subst (λ (m : ℕ). m ≤ limit) same (h refl)

-- the length behind a flag of 0
sized_within : (limit : ℕ) (bs : List ℕ) (n : ℕ) → sized_prefix limit bs ≡ Sized n → n ≤ limit
sized_within limit [] n e = absurd (cc)
sized_within limit (a ∷ []) n e = absurd (cc)
sized_within limit (a ∷ b ∷ []) n e = absurd (cc)
sized_within limit (a ∷ b ∷ c ∷ []) n e = absurd (cc)
sized_within limit (a ∷ b ∷ c ∷ d ∷ bs) n e =
    length_step limit (big_endian a b c d) n _ (ltb-false limit (big_endian a b c d)) e

-- a test that chose a flag
flag_step : (limit : ℕ) (bs : List ℕ) (n : ℕ) (b c : Bool)
    → cond b (sized_prefix limit bs) (cond c (BadPrefix CompressedFlag) (BadPrefix ReservedFlag)) ≡ Sized n → n ≤ limit
flag_step limit bs n true c e = sized_within limit bs n e
flag_step limit bs n false true e = absurd (cc)
flag_step limit bs n false false e = absurd (cc)

-- a length that is read is within the limit
prefix_within : (limit : ℕ) (bs : List ℕ) (n : ℕ) → prefix_of limit bs ≡ Sized n → n ≤ limit
prefix_within limit [] n e = absurd (cc)
prefix_within limit (f ∷ bs) n e = flag_step limit bs n (f == 0) (f == 1) e

-- a whole message is within the limit
complete_within : (limit : ℕ) (bs m rest : List ℕ) → front limit bs ≡ Complete m rest → length m ≤ limit
complete_within limit bs m rest e =
    let w : IsComplete limit bs m rest = front_complete limit bs m rest e in
    let n : w.size ≤ limit = prefix_within limit bs w.size w.prefix_is in
    let k : length m ≡ min w.size (length (drop 5 bs)) = ap length w.message_is ∙ length-take w.size (drop 5 bs) in
    omega arith

-- all messages of a stream are within the limit
abbrev AreWithin : ℕ → MessageStream → Type 0
AreWithin limit d = AllByRecursion (λ (m : List ℕ). length m ≤ limit) d.messages

-- one message more
within_step : (limit : ℕ) (bs : List ℕ) (x : Front) → front limit bs ≡ x
    → ((m rest : List ℕ) → x ≡ Complete m rest → AreWithin limit (deframed_of limit rest))
    → AreWithin limit (deframed_of limit bs)
within_step limit bs Incomplete h k = subst (AreWithin limit) (sym (deframed_of_at limit bs Incomplete h)) tt
within_step limit bs (Malformed w) h k = subst (AreWithin limit) (sym (deframed_of_at limit bs (Malformed w) h)) tt
within_step limit bs (Complete m rest) h k =
    subst (AreWithin limit) (sym (deframed_of_at limit bs (Complete m rest) h))
    (complete_within limit bs m rest h, k m rest refl)

-- for at most j bytes
within_all : (j limit : ℕ) (bs : List ℕ) → length bs ≤ j → AreWithin limit (deframed_of limit bs)
within_all zero limit bs p = within_step limit bs (front limit bs) refl (λ m rest e.
    let l : length bs ≡ 5 + length m + length rest = complete_length limit bs m rest e in absurd (omega arith))
within_all (suc j) limit bs p = within_step limit bs (front limit bs) refl (λ m rest e.
    let l : length bs ≡ 5 + length m + length rest = complete_length limit bs m rest e in
    within_all j limit rest (omega arith))

-- the messages of any bytes are within the limit
pub deframed_of_within : (limit : ℕ) (bs : List ℕ)
    → AllByRecursion (λ (m : List ℕ). length m ≤ limit) (deframed_of limit bs).messages
deframed_of_within limit bs = within_all (length bs) limit bs (omega arith)
