-- What an engine of base64 decodes is bytes.
use Rattle.std.proofs.Common.{◌≡◌, ◌<◌, ◌+◌, ◌*◌, ◌/◌, ◌-◌, ◌⊎◌, inl, inr, sym, subst, refl, arith, ℕ, zero, suc, true, List, [], ◌∷◌, ◌++◌, length, take, drop, slice_index, take-append-drop, Option, Some, None, Result, Ok, Err}
use Rattle.std.proofs.lemmas.List.{get_or-drop, length-drop}
use Rattle.base64.proofs.Canonical.{IsScanned-scan}
use Rattle.base64.proofs.EngineFacts.{front_bytes}
use Rattle.base64.proofs.Tables.{are_tables_inverse, encode-decode_table}
use Rattle.base64.specs.Decode.{decode_group, decode_outcome, group_error, groups_before_last, groups_bytes, groups_error, lone_error, no_leftover, or_else, scan_last, suffix_bytes, symbol_error}
use Rattle.base64.specs.GeneralPurpose.{IsBytes, decode_of, decoded_bytes_of}
use Rattle.base64.specs.Tables.{is_inverse}
use Rattle.base64.specs.declared.decode.DecodeError.{DecodeError}
use Rattle.base64.specs.declared.engine.general_purpose.GeneralPurpose.{GeneralPurpose}

-- bytes behind bytes
bytes_then : (a b : List ℕ) → IsBytes a → IsBytes b → IsBytes (a ++ b)
bytes_then [] b h k i = k i
bytes_then (x ∷ a) b h k zero = h 0
bytes_then (x ∷ a) b h k (suc i) = bytes_then a b (λ n. h (suc n)) k i

three_bytes : (a b c : ℕ) → a < 256 → b < 256 → c < 256 → IsBytes (a ∷ b ∷ c ∷ [])
three_bytes a b c p q r zero = p
three_bytes a b c p q r (suc zero) = q
three_bytes a b c p q r (suc (suc zero)) = r
three_bytes a b c p q r (suc (suc (suc i))) = omega arith

-- three bytes of four values of six bits
group_is : (a b c d : ℕ) → a < 64 → b < 64 → c < 64 → d < 64 → IsBytes (decode_group a b c d)
group_is a b c d p q r s = three_bytes _ _ _ (omega (arith, p, q)) (omega (arith, q, r)) (omega (arith, r, s))

both_none : (x y : Option DecodeError) → or_else x y ≡ None → (x ≡ None) × (y ≡ None)
both_none None y h = (refl, h)
both_none (Some e) y h = absurd cc

result_of : {A E : Type 0} (r : Result A E) → ((a : A) × (r ≡ Ok a)) ⊎ ((e : E) × (r ≡ Err e))
result_of (Ok a) = inl (a, refl)
result_of (Err e) = inr (e, refl)

zeros_are : (k : ℕ) → slice_index (0 ∷ 0 ∷ 0 ∷ 0 ∷ []) k < 64
zeros_are zero = omega arith
zeros_are (suc zero) = omega arith
zeros_are (suc (suc zero)) = omega arith
zeros_are (suc (suc (suc zero))) = omega arith
zeros_are (suc (suc (suc (suc k)))) = omega arith

module _ (enc dec s : List ℕ) (inverse : is_inverse enc dec ≡ true) (bytes : IsBytes s) where
  -- a symbol has six bits
  symbol_is : (i : ℕ) → symbol_error dec s i ≡ None → slice_index dec (slice_index s i) < 64
  symbol_is i h = elim (encode-decode_table enc dec inverse (slice_index s i) (bytes i)) [
    | inl bad ↦ cc (rw bad at h)
    | inr good ↦ good.0
  ]

  groups_are : (q : ℕ) → groups_error dec s q ≡ None → IsBytes (groups_bytes dec s q)
  unfolding groups_error groups_bytes
  groups_are zero h = λ i. omega arith
  groups_are (suc q) h =
      let parts = both_none (groups_error dec s q) (group_error dec s (4 * q)) h in
      let a = both_none (symbol_error dec s (4 * q)) _ parts.1 in
      let b = both_none (symbol_error dec s (4 * q + 1)) _ a.1 in
      let d = both_none (symbol_error dec s (4 * q + 2)) (symbol_error dec s (4 * q + 3)) b.1 in
      bytes_then _ _ (groups_are q parts.0)
      (group_is _ _ _ _ (symbol_is _ a.0) (symbol_is _ b.0) (symbol_is _ d.0) (symbol_is _ d.1))

  leftover_is : (ms : List ℕ) (n : ℕ) → ((k : ℕ) → slice_index ms k < 64)
      → IsBytes (take n (decode_group (slice_index ms 0) (slice_index ms 1) (slice_index ms 2) (slice_index ms 3)))
  leftover_is ms n h =
      let all = decode_group (slice_index ms 0) (slice_index ms 1) (slice_index ms 2) (slice_index ms 3) in
      front_bytes (take n all) (drop n all)
      (subst IsBytes (sym (take-append-drop n all)) (group_is _ _ _ _ (h 0) (h 1) (h 2) (h 3)))

  suffix_is : (pad : ℕ) → IsBytes (suffix_bytes dec pad (4 * groups_before_last (length s)) s)
  suffix_is pad =
      let at : ℕ = 4 * groups_before_last (length s) in
      let rest : List ℕ = drop at s in
      let rest_len : length rest ≡ length s - at = length-drop at s in
      let rest_bytes : (k : ℕ) → slice_index rest k < 256 = λ k. rw (get_or-drop at s k 0) (bytes (at + k)) in
      elim (result_of (scan_last dec pad at s)) [
        | inl ok ↦
            let held = IsScanned-scan enc dec rest pad at rest no_leftover ok.0 0 inverse rest_bytes
            (omega (arith, rest_len)) (omega arith) refl (
              (refl, refl, λ j lt. absurd (omega arith), λ j low lt. absurd (omega arith)),
              (omega arith, omega arith, omega arith, zeros_are),
            ) ok.1 in
            let left = held.1 in
            rw ok.1 (leftover_is ok.0.morsels (ok.0.morsels_count * 6 / 8) left.3)
        | inr err ↦ rw err.1 (λ i. omega arith)
      ]

-- what is decoded without an error is bytes
pub decoded_are : (e : GeneralPurpose) (s b : List ℕ) → IsBytes s → decode_of e s ≡ Ok b
    → IsBytes (decoded_bytes_of e s)
decoded_are e s b bytes ok =
    let none = outcome_none _ _ ok in
    let all = both_none (lone_error e.decode_table e.padding.value s) _ none in
    let groups = both_none (groups_error e.decode_table s (groups_before_last (length s))) _ all.1 in
    let inverse = are_tables_inverse e.encode_table e.decode_table e.padding.value e.tables in
    bytes_then _ _ (groups_are e.encode_table e.decode_table s inverse bytes (groups_before_last (length s)) groups.0)
    (suffix_is e.encode_table e.decode_table s inverse bytes e.padding.value)
  where
    outcome_none : (x : Option DecodeError) (d : List ℕ) → decode_outcome x d ≡ Ok b → x ≡ None
    outcome_none None d h = refl
    outcome_none (Some x) d h = absurd cc
