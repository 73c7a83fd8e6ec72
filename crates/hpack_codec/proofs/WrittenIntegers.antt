-- Integers and strings that are written are read back, whatever stands behind them.
use Rattle.std.proofs.Common.{◌≡◌, ◌+◌, ◌-◌, ◌%◌, ◌<◌, ◌≤◌, ◌^◌, ◌++◌, ℕ, suc, Bool, true, false, List, [], ◌∷◌, length, take, drop, Option, Some, None, Result, Ok, if◌then◌else◌, refl, ap, sym, ◌∙◌, arith, append_assoc, length-append}
use Rattle.std.specs.Prelude.{nat_lt}
use Rattle.std.specs.Option.{option_and_then, option_map}
use Rattle.std.specs.Result.{result_ok}
use Rattle.std.proofs.lemmas.Bool.{lt-ltb, le-ltb}
use Rattle.std.proofs.lemmas.Bool.Decides.{nat_tests}
use Rattle.std.proofs.Math.Seq.{drop-append_seam, take-append_seam}
use Rattle.base.specs.declared.base128.GroupFault.{GroupFault}
use Rattle.base.specs.Base128.{groups_in, groups_of}
use Rattle.base.proofs.GroupLemmas.{groups_read}
use Rattle.hpack_codec.specs.PrefixInteger.{integer_behind, integer_bytes, integer_in, within_32_bits}
use Rattle.hpack_codec.specs.Huffman.{huffman_text}
use Rattle.hpack_codec.specs.StringLiteral.{sized_text, string_bytes_of, string_in, text_of}

-- what stands behind a prefix with every bit set, once its groups are read
abbrev pub behind_groups : ℕ → Result (ℕ × ℕ) GroupFault → Option (ℕ × ℕ)
behind_groups ones groups = option_and_then (λ (r : ℕ × ℕ). within_32_bits (ones + r.0) (r.1 + 1)) (result_ok groups)

-- what the prefix of the first byte holds
abbrev pub after_first : ℕ → ℕ → List ℕ → Option (ℕ × ℕ)
after_first ones low bs = if nat_lt low ones then Some (low, 1) else integer_behind ones bs

within : (n len : ℕ) → n < 2 ^ 32 → within_32_bits n len ≡ Some (n, len)
within n len h = ap (λ (t : Bool). if t then Some (n, len) else None) (lt-ltb n (2 ^ 32) h)

module _ (pattern ones : ℕ) (prefix : (m : ℕ) → m ≤ ones → (pattern + m) % (ones + 1) ≡ m) where
  written_by : (n : ℕ) (more : List ℕ) (test : Bool) → nat_lt n ones ≡ test → n < 2 ^ 32 → integer_in ones (integer_bytes pattern ones n ++ more) ≡ Some (n, length (integer_bytes pattern ones n))
  written_by n more true e h =
      let l : n < ones = grind (arith, nat_tests) in
      rw e (ap (λ (low : ℕ). after_first ones low more) (prefix n (omega arith)) ∙ ap (λ (t : Bool). if t then Some (n, 1) else integer_behind ones more) e)
  written_by n more false e h =
      let l : ones ≤ n = grind (arith, nat_tests) in
      let groups = groups_of 10 (n - ones) in
      let small : n - ones < 128 ^ 5 = omega arith in
      let read : groups_in 5 (groups ++ more) ≡ Ok (n - ones, length groups) = groups_read 5 10 (n - ones) more (omega arith) (omega arith) small in
      let value : ones + (n - ones) ≡ n = omega arith in
      let len : length groups + 1 ≡ suc (length groups) = omega arith in
      rw e (ap (λ (low : ℕ). after_first ones low (groups ++ more)) (prefix ones (omega arith))
      ∙ (ap (λ (t : Bool). if t then Some (ones, 1) else integer_behind ones (groups ++ more)) (le-ltb ones ones (omega arith))
      ∙ (ap (behind_groups ones) read
      ∙ (ap (λ (x : ℕ). within_32_bits x (length groups + 1)) value
      ∙ (within n (length groups + 1) h ∙ ap (λ (x : ℕ). Some (n, x)) len)))))

  -- an integer that is written is read
  pub integer_read : (n : ℕ) (more : List ℕ) → n < 2 ^ 32 → integer_in ones (integer_bytes pattern ones n ++ more) ≡ Some (n, length (integer_bytes pattern ones n))
  integer_read n more h = written_by n more (nat_lt n ones) refl h

-- the first byte of an integer
pub record BeginsBy (least most : ℕ) (bytes : List ℕ) : Type 0 where
  pub first : ℕ
  pub rest : List ℕ
  pub is : bytes ≡ first ∷ rest
  pub least_is : least ≤ first
  pub most_is : first ≤ most

begins_by : (pattern ones n : ℕ) (test : Bool) → nat_lt n ones ≡ test → BeginsBy pattern (pattern + ones) (integer_bytes pattern ones n)
begins_by pattern ones n true e = let l : n < ones = grind (arith, nat_tests) in record { first = pattern + n; rest = []; is = rw e refl; least_is = omega arith; most_is = omega arith }
begins_by pattern ones n false e = record { first = pattern + ones; rest = groups_of 10 (n - ones); is = rw e refl; least_is = omega arith; most_is = omega arith }

-- what an integer begins with is the pattern, with at most all ones
pub integer_begins : (pattern ones n : ℕ) → BeginsBy pattern (pattern + ones) (integer_bytes pattern ones n)
integer_begins pattern ones n = begins_by pattern ones n (nat_lt n ones) refl

-- seven bits behind a bit of 0
pub prefix_seven : (m : ℕ) → m ≤ 127 → (0 + m) % (127 + 1) ≡ m
prefix_seven m h = omega arith

-- seven bits behind a bit of 1
pub prefix_indexed : (m : ℕ) → m ≤ 127 → (128 + m) % (127 + 1) ≡ m
prefix_indexed m h = omega arith

-- four bits behind four bits of 0
pub prefix_four : (m : ℕ) → m ≤ 15 → (0 + m) % (15 + 1) ≡ m
prefix_four m h = omega arith

-- a string that is written is read
sized : (b len : ℕ) (text more : List ℕ) → b < 128 → sized_text b (length text) len (text ++ more) ≡ Some (text, len + length text)
sized b len text more h =
    let fits : length text ≤ length (text ++ more) = rw length-append (omega arith) in
    ap (λ (t : Bool). if t then None else option_map (λ (x : List ℕ). (x, len + length text)) (text_of b (take (length text) (text ++ more)))) (le-ltb (length (text ++ more)) (length text) fits)
    ∙ (ap (λ (xs : List ℕ). option_map (λ (x : List ℕ). (x, len + length text)) (text_of b xs)) (take-append_seam text more)
    ∙ ap (λ (t : Bool). option_map (λ (x : List ℕ). (x, len + length text)) (if t then Some text else huffman_text text)) (lt-ltb b 128 h))

string_by : (b : ℕ) (bs text more : List ℕ) → integer_bytes 0 127 (length text) ≡ b ∷ bs → b < 128 → length text < 2 ^ 32
    → string_in ((b ∷ bs) ++ (text ++ more)) ≡ Some (text, length (b ∷ bs) + length text)
string_by b bs text more e h l =
    let read = integer_read 0 127 prefix_seven (length text) (text ++ more) l in
    let here : integer_in 127 ((b ∷ bs) ++ (text ++ more)) ≡ Some (length text, length (b ∷ bs)) = rw e at read in
    ap (option_and_then (λ (n : ℕ × ℕ). sized_text b n.0 n.1 (drop n.1 ((b ∷ bs) ++ (text ++ more))))) here
    ∙ (ap (sized_text b (length text) (length (b ∷ bs))) (drop-append_seam (b ∷ bs) (text ++ more))
    ∙ sized b (length (b ∷ bs)) text more h)

-- a string that is written is read
pub string_read : (text more : List ℕ) → length text < 2 ^ 32 → string_in (string_bytes_of text ++ more) ≡ Some (text, length (string_bytes_of text))
string_read text more l =
    let head = integer_begins 0 127 (length text) in
    let whole : string_bytes_of text ≡ (head.first ∷ head.rest) ++ text = ap (λ (xs : List ℕ). xs ++ text) head.is in
    let len : length (head.first ∷ head.rest) + length text ≡ length (string_bytes_of text) = sym (length-append (head.first ∷ head.rest) text) ∙ ap length (sym whole) in
    ap (λ (xs : List ℕ). string_in (xs ++ more)) whole
    ∙ (ap string_in (append_assoc (head.first ∷ head.rest) text more)
    ∙ (string_by head.first head.rest text more head.is (omega (arith, head.most_is)) l
    ∙ ap (λ (n : ℕ). Some (text, n)) len))
