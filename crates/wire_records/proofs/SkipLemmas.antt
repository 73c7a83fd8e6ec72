-- Skipping bytes is dropping them, and so what is left of a group goes on record by record.
use Rattle.std.proofs.Common.{◌≡◌, ◌+◌, ◌-◌, ◌≤◌, ◌<◌, ℕ, zero, suc, List, [], ◌∷◌, length, drop, Some, None, Result, Ok, Err, arith, refl, ap, sym, ◌∙◌}
use Rattle.base.proofs.SliceLemmas.{drop_one}
use Rattle.wire_records.specs.WireRecord.{Record, Stop, onward, group_rest, end_of, tag_in, record_with}

-- what is found no bytes further on is found here
pub onward_zero : (r : Result ℕ Stop) → onward 0 r ≡ r
onward_zero (Ok n) = let e : 0 + n ≡ n = omega arith in ap (λ (x : ℕ). Ok x) e
onward_zero (Err None) = refl
onward_zero (Err (Some p)) = let e : 0 + p.0 ≡ p.0 = omega arith in ap (λ (x : ℕ). Err (Some (x, p.1))) e

-- what is found further on twice is found further on by the sum
pub onward_twice : (a b c : ℕ) (r : Result ℕ Stop) → a + b ≡ c → onward a (onward b r) ≡ onward c r
onward_twice a b c (Ok n) h = let e : a + (b + n) ≡ c + n = omega arith in ap (λ (x : ℕ). Ok x) e
onward_twice a b c (Err None) h = refl
onward_twice a b c (Err (Some p)) h = let e : a + (b + p.0) ≡ c + p.0 = omega arith in ap (λ (x : ℕ). Err (Some (x, p.1))) e

module _ (inner : ℕ → ℕ → List ℕ → Result ℕ Stop) (n : ℕ) where
  -- what is left of a group behind skipped bytes is what is left of it without them
  pub rest_skip : (skip : ℕ) (bs : List ℕ) → group_rest inner n skip bs ≡ onward skip (group_rest inner n 0 (drop skip bs))
  rest_skip zero [] = refl
  rest_skip (suc skip) [] = refl
  rest_skip zero (b ∷ bs) = sym (onward_zero (group_rest inner n 0 (b ∷ bs)))
  rest_skip (suc skip) (b ∷ bs) = ap (onward 1) (rest_skip skip bs) ∙ onward_twice 1 skip (suc skip) (group_rest inner n 0 (drop skip bs)) (omega arith)

  -- what is left of a group goes on behind its first record
  pub rest_next : (bytes : List ℕ) (r : Record) → 0 < length bytes → 1 ≤ r.size → end_of n (tag_in bytes) ≡ None → record_with inner bytes ≡ Ok r
      → group_rest inner n 0 bytes ≡ onward r.size (group_rest inner n 0 (drop r.size bytes))
  rest_next [] r l s e h = absurd (omega arith)
  rest_next (b ∷ bs) r l s e h =
      rw (e, h, drop_one r.size b bs s) (ap (onward 1) (rest_skip (r.size - 1) bs) ∙ onward_twice 1 (r.size - 1) r.size (group_rest inner n 0 (drop (r.size - 1) bs)) (omega arith))

  -- what is left of a group stops where its first record is wrong
  pub rest_stop : (bytes : List ℕ) (stop : Stop) → 0 < length bytes → end_of n (tag_in bytes) ≡ None → record_with inner bytes ≡ Err stop → group_rest inner n 0 bytes ≡ Err stop
  rest_stop [] stop l e h = absurd (omega arith)
  rest_stop (b ∷ bs) stop l e h = rw (e, h) refl

  -- what is left of a group ends where its end stands
  pub rest_end : (bytes : List ℕ) (len : ℕ) → 0 < length bytes → end_of n (tag_in bytes) ≡ Some len → group_rest inner n 0 bytes ≡ Ok len
  rest_end [] len l e = absurd (omega arith)
  rest_end (b ∷ bs) len l e = rw e refl
