-- What a call takes and tells, by cases.
use Rattle.std.proofs.Common.{◌≡◌, ◌<◌, ◌≤◌, ◌+◌, ◌-◌, ◌++◌, ◌==◌, ℕ, Bool, true, false, List, length, take, min, cond, nat_lt, nat_le, arith, sym, ap, ap₂, ◌∙◌, Option, Some, None, Result, Ok, Err}
use Rattle.std.proofs.lemmas.Bool.{le-ltb, lt-ltb}
use Rattle.std.proofs.lemmas.Bool.Decides.{nat_tests}
use Rattle.h2_frames.specs.declared.fault.H2Fault.{H2Fault}
use Rattle.h2_frames.specs.declared.parts.FrameFed.{FrameFed}
use Rattle.h2_frames.specs.declared.parts.Part.{Part}
use Rattle.h2_frames.specs.declared.parts.Part.TheVariants.{Piece, Done}
use Rattle.h2_frames.specs.FrameHead.{frame_size}
use Rattle.h2_frames.specs.Http2Frame.{first_fault}
use Rattle.h2_frames.specs.FrameReader.{Position, taken_of, part_of, begin_of, fed_of, bytes_after, answer_by, answer_of}

le_by_test : (m n : ℕ) → m ≤ n → nat_le m n ≡ true
le_by_test m n h = grind (arith, nat_tests)

gt_test : (m n : ℕ) → n < m → nat_le m n ≡ false
gt_test m n h = grind (arith, nat_tests)

zero_test : (n : ℕ) → n ≡ 0 → (n == 0) ≡ true
zero_test n h = grind (arith, nat_tests)

-- a test whether a number is 0
pub some_test : (n : ℕ) → 0 < n → (n == 0) ≡ false
some_test n h = grind (arith, nat_tests)

-- a call takes bytes up to the end of the head
pub taken_few : (seen bytes : List ℕ) → length seen < 9 → taken_of seen bytes ≡ min (9 - length seen) (length bytes)
taken_few seen bytes h = ap (λ b. cond b (min (9 - length seen) (length bytes)) (min (frame_size seen - length seen) (length bytes))) (lt-ltb (length seen) 9 h)

-- a call takes bytes up to the end of the payload
pub taken_many : (seen bytes : List ℕ) → 9 ≤ length seen → taken_of seen bytes ≡ min (frame_size seen - length seen) (length bytes)
taken_many seen bytes h = ap (λ b. cond b (min (9 - length seen) (length bytes)) (min (frame_size seen - length seen) (length bytes))) (le-ltb (length seen) 9 h)

abbrev few_part : List ℕ → List ℕ → Bool → Option Part
few_part seen bytes b = cond b None (Some (begin_of (seen ++ take (9 - length seen) bytes)))

abbrev many_part : List ℕ → List ℕ → Bool → Bool → Option Part
many_part seen bytes ended empty = cond ended (Some Done) (cond empty None (Some (Piece (taken_of seen bytes))))

part_few : (seen bytes : List ℕ) → length seen < 9 → part_of seen bytes ≡ few_part seen bytes (nat_lt (length seen + length bytes) 9)
part_few seen bytes h = ap (λ b. cond b (few_part seen bytes (nat_lt (length seen + length bytes) 9)) (many_part seen bytes (nat_le (frame_size seen) (length seen)) (length bytes == 0))) (lt-ltb (length seen) 9 h)

part_many : (seen bytes : List ℕ) → 9 ≤ length seen → part_of seen bytes ≡ many_part seen bytes (nat_le (frame_size seen) (length seen)) (length bytes == 0)
part_many seen bytes h = ap (λ b. cond b (few_part seen bytes (nat_lt (length seen + length bytes) 9)) (many_part seen bytes (nat_le (frame_size seen) (length seen)) (length bytes == 0))) (le-ltb (length seen) 9 h)

-- a head that is not whole with the bytes is no part
pub part_none : (seen bytes : List ℕ) → length seen < 9 → length seen + length bytes < 9 → part_of seen bytes ≡ None
part_none seen bytes h k = part_few seen bytes h ∙ ap (few_part seen bytes) (lt-ltb (length seen + length bytes) 9 k)

-- a head that is whole with the bytes begins a frame
pub part_begin : (seen bytes : List ℕ) → length seen < 9 → 9 ≤ length seen + length bytes → part_of seen bytes ≡ Some (begin_of (seen ++ take (9 - length seen) bytes))
part_begin seen bytes h k = part_few seen bytes h ∙ ap (few_part seen bytes) (le-ltb (length seen + length bytes) 9 k)

-- a payload that has ended ends the frame
pub part_done : (seen bytes : List ℕ) → 9 ≤ length seen → frame_size seen ≤ length seen → part_of seen bytes ≡ Some Done
part_done seen bytes h k = part_many seen bytes h ∙ ap (λ b. many_part seen bytes b (length bytes == 0)) (le_by_test (frame_size seen) (length seen) k)

-- no bytes of a payload are no part
pub part_idle : (seen bytes : List ℕ) → 9 ≤ length seen → length seen < frame_size seen → length bytes ≡ 0 → part_of seen bytes ≡ None
part_idle seen bytes h k z = part_many seen bytes h ∙ ap₂ (many_part seen bytes) (gt_test (frame_size seen) (length seen) k) (zero_test (length bytes) z)

-- bytes of a payload are a piece
pub part_piece : (seen bytes : List ℕ) → 9 ≤ length seen → length seen < frame_size seen → 0 < length bytes → part_of seen bytes ≡ Some (Piece (taken_of seen bytes))
part_piece seen bytes h k z = part_many seen bytes h ∙ ap₂ (many_part seen bytes) (gt_test (frame_size seen) (length seen) k) (some_test (length bytes) z)

-- an answer where no rule is broken, and where one is
pub answer_ok : (p : Position) (bytes : List ℕ) (fed : FrameFed) → first_fault (bytes_after p bytes) ≡ None → fed.taken ≡ taken_of p.seen bytes → fed.part ≡ part_of p.seen bytes → Ok fed ≡ answer_of p bytes
answer_ok p bytes fed h t q =
    let made : ℕ → Option Part → Result FrameFed H2Fault = λ taken part. Ok (record { taken = taken; part = part }) in
    ap₂ made t q ∙ sym (ap (λ o. answer_by o (fed_of p.seen bytes)) h)

-- an answer where a rule is broken
pub answer_err : (p : Position) (bytes : List ℕ) (f : H2Fault) → first_fault (bytes_after p bytes) ≡ Some f → Err f ≡ answer_of p bytes
answer_err p bytes f h = sym (ap (λ o. answer_by o (fed_of p.seen bytes)) h)
