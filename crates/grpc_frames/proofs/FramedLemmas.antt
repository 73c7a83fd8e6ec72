-- What is framed is read back, and what is read is what was framed.
use Rattle.std.proofs.Common.{◌≡◌, ◌<◌, ◌≤◌, ◌+◌, ◌^◌, ◌++◌, ℕ, List, [], ◌∷◌, length, cond, nat_lt, arith, refl, ap, ap₂, ◌∙◌, append_assoc}
use Rattle.std.proofs.lemmas.Bool.{le-ltb}
use Rattle.std.proofs.lemmas.List.{take_all}
use Rattle.std.proofs.lemmas.Nat.{from_be_bytes-to_be_bytes_4}
use Rattle.std.proofs.Math.ListN.{drop_of_length-le}
use Rattle.std.specs.List.{AllByRecursion}
use Rattle.grpc_frames.specs.LengthPrefixed.{length_prefixed, all_length_prefixed, LengthOverLimit, BadPrefix, Sized, prefix_of, Complete, front, after_messages, deframed_of}
use Rattle.grpc_frames.proofs.FrontLemmas.{complete_front}
use Rattle.grpc_frames.proofs.SplitLemmas.{complete_grows, deframed_of_at}

-- a length within the limit is taken
size_step : (limit n k : ℕ) → k ≡ n → n ≤ limit → cond (nat_lt limit k) (BadPrefix (LengthOverLimit k)) (Sized k) ≡ Sized n
size_step limit n k e h = let l : k ≤ limit = omega arith in ap (λ b. cond b (BadPrefix (LengthOverLimit k)) (Sized k)) (le-ltb limit k l) ∙ ap Sized e

-- the prefix of a message is its length
length_prefixed-prefix_of : (limit : ℕ) (m : List ℕ) → length m ≤ limit → length m < 2 ^ 32 → prefix_of limit (length_prefixed m) ≡ Sized (length m)
length_prefixed-prefix_of limit m h k = size_step limit (length m) _ (from_be_bytes-to_be_bytes_4 (length m) k) h

-- a message takes five bytes more than it has
length_prefixed-length : (m : List ℕ) → length (length_prefixed m) ≡ 5 + length m
length_prefixed-length m = omega arith

-- a message that is framed is whole, whatever comes behind it
length_prefixed_front : (limit : ℕ) (m more : List ℕ) → length m ≤ limit → length m < 2 ^ 32 → front limit (length_prefixed m ++ more) ≡ Complete m more
length_prefixed_front limit m more h k =
    let l : 5 + length m ≤ length (length_prefixed m) = omega (arith, length_prefixed-length m) in
    let g : length (length_prefixed m) ≤ 5 + length m = omega (arith, length_prefixed-length m) in
    let a : length m ≤ length m = omega arith in
    complete_grows limit (length_prefixed m) more m [] (complete_front limit (length_prefixed m) (length m) (length_prefixed-prefix_of limit m h k) l ∙ ap₂ Complete (take_all (length m) m a) (drop_of_length-le (length_prefixed m) {i = 5 + length m} g))

-- messages within the limit are read back, whatever comes behind them
pub deframed_of-all_length_prefixed : (limit : ℕ) (ms : List (List ℕ)) (more : List ℕ) → limit < 2 ^ 32 → AllByRecursion (λ m. length m ≤ limit) ms → deframed_of limit (all_length_prefixed ms ++ more) ≡ after_messages ms (deframed_of limit more)
deframed_of-all_length_prefixed limit [] more h k = refl
deframed_of-all_length_prefixed limit (m ∷ ms) more h k =
    let l : length m ≤ limit = k.0 in
    let s : length m < 2 ^ 32 = omega arith in
    let rest = all_length_prefixed ms ++ more in
    ap (deframed_of limit) (append_assoc (length_prefixed m) (all_length_prefixed ms) more)
    ∙ deframed_of_at limit (length_prefixed m ++ rest) (Complete m rest) (length_prefixed_front limit m rest l s) ∙ ap (after_messages (m ∷ [])) (deframed_of-all_length_prefixed limit ms more h k.1)
