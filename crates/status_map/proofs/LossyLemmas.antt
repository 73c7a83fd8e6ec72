-- What is made of bytes that may be no text is UTF-8.
use Rattle.std.proofs.Common.{◌≡◌, ◌⊎◌, inl, inr, ◌<◌, ◌≤◌, ◌++◌, ℕ, zero, suc, Bool, true, false, List, length, take}
use Rattle.std.proofs.Common.{if◌then◌else◌, refl, sym, ap, ◌∙◌, subst, arith}
use Rattle.std.proofs.Math.Seq.{take-length}
use Rattle.std.proofs.lemmas.Bool.{cases_lt}
use Rattle.std.proofs.lemmas.Str.{IsUtf8-append, IsUtf8-from_is_utf8, IsUtf8-nil}
use Rattle.std.proofs.lemmas.Str.{utf8_lossy-IsUtf8, utf8_lossy_step, utf8_valid_len_le}
use Rattle.std.proofs.str.Lossy.{length-after_first_chunk}
use Rattle.std.specs.Str.{IsUtf8, is_utf8}
use Rattle.std.specs.Str.Lossy.{after_first_chunk, replacement_bytes, utf8_lossy, utf8_valid_len, valid_len_up_to}
use Rattle.status_map.proofs.BodyLemmas.{replacement_utf8}

front_by : (bs : List ℕ) (m : ℕ) (test : Bool) → is_utf8 (take (suc m) bs) ≡ test
    → IsUtf8 (take (valid_len_up_to bs m) bs)
    → IsUtf8 (take (if test then suc m else valid_len_up_to bs m) bs)
front_by bs m true e rest = IsUtf8-from_is_utf8 (take (suc m) bs) e
front_by bs m false e rest = rest

-- the longest front of so many bytes that is found to be text
front_utf8 : (bs : List ℕ) (m : ℕ) → IsUtf8 (take (valid_len_up_to bs m) bs)
front_utf8 bs zero = IsUtf8-nil
front_utf8 bs (suc m) = front_by bs m (is_utf8 (take (suc m) bs)) refl (front_utf8 bs m)

-- the longest front of all bytes
valid_front : (bs : List ℕ) → IsUtf8 (take (utf8_valid_len bs) bs)
unfolding utf8_valid_len
valid_front bs = front_utf8 bs (length bs)

-- text stays, and other bytes give their front, U+FFFD and what is made of the rest
lossy_by : (bs : List ℕ) → (utf8_valid_len bs < length bs) ⊎ (length bs ≤ utf8_valid_len bs)
    → (length (after_first_chunk bs) < length bs → IsUtf8 (utf8_lossy (after_first_chunk bs)))
    → IsUtf8 (utf8_lossy bs)
lossy_by bs (inl l) rest =
    let faulty : ¬ (utf8_valid_len bs ≡ length bs) = omega (arith, l) in
    let more = rest (length-after_first_chunk bs faulty) in
    let behind = IsUtf8-append replacement_bytes (utf8_lossy (after_first_chunk bs)) replacement_utf8 more in
    let all = IsUtf8-append (take (utf8_valid_len bs) bs) (replacement_bytes ++ utf8_lossy (after_first_chunk bs))
    (valid_front bs) behind in
    subst IsUtf8 (sym (utf8_lossy_step bs faulty)) all
lossy_by bs (inr l) rest =
    let whole : utf8_valid_len bs ≡ length bs = omega (arith, l, utf8_valid_len_le bs) in
    let text = subst IsUtf8 (ap (λ (n : ℕ). take n bs) whole ∙ take-length bs) (valid_front bs) in
    subst IsUtf8 (sym (utf8_lossy-IsUtf8 bs text)) text

lossy_within : (k : ℕ) (bs : List ℕ) → length bs ≤ k → IsUtf8 (utf8_lossy bs)
lossy_within zero bs l =
    lossy_by bs (cases_lt (utf8_valid_len bs) (length bs)) (λ less. absurd (omega (arith, l, less)))
lossy_within (suc k) bs l =
    lossy_by bs (cases_lt (utf8_valid_len bs) (length bs))
    (λ less. lossy_within k (after_first_chunk bs) (omega (arith, l, less)))

-- what is made of any bytes is text
pub lossy_is_text : (bs : List ℕ) → IsUtf8 (utf8_lossy bs)
lossy_is_text bs = lossy_within (length bs) bs (omega arith)
