-- A coded string spells a text exactly where its bits are the codes of the text and padding.
use Rattle.std.proofs.Common.{◌≡◌, ◌↔◌, ◌==◌, ◌&&◌, ◌<◌, ◌++◌, ℕ, zero, suc, Bool, true, false, List}
use Rattle.std.proofs.Common.{[], ◌∷◌, length, take, drop, get_or, Option, Some, None, if◌then◌else◌, refl, ap, sym}
use Rattle.std.proofs.Common.{◌∙◌, subst, arith, append_assoc, append-nil}
use Rattle.std.specs.Prelude.{nat_lt}
use Rattle.std.specs.List.{AllByRecursion}
use Rattle.std.specs.Option.{option_map}
use Rattle.std.specs.Str.{bytes_eq}
use Rattle.std.proofs.lemmas.Bool.{ne_eqb, false≢true}
use Rattle.std.proofs.lemmas.Bool.Decides.{Decides-below_and}
use Rattle.std.proofs.lemmas.List.{take-append-drop}
use Rattle.std.proofs.lemmas.Slice.Eq.{bytes_eq-Decides}
use Rattle.std.proofs.Math.Seq.{take-append_seam}
use borrow.Author.Tests.{ltb-true}
use Rattle.base.specs.Bytes.{AreBytes}
use Rattle.base.specs.Extends.{Extends}
use Rattle.base.proofs.ByteLemmas.{AllBytes, bytes_all}
use Rattle.hpack_codec.specs.Huffman.{CodePrefix, next_bit, bits_of, no_bits, text_from, huffman_text}
use Rattle.hpack_codec.specs.Huffman.{spelled, is_padding}
use Rattle.hpack_codec.specs.HuffmanCodes.{huffman_codes, code_of, codes_of, IsPadding, IsHuffmanCoded}
use Rattle.hpack_codec.proofs.HuffmanSteps.{before, bits_do, spelled_all, text_bits, both, same, same_is}

-- the bits of a code end it with their last, and no other before
abbrev reads_back : ℕ → Bool
reads_back s =
    if bytes_eq (bits_do no_bits (code_of s)).0 (s ∷ []) then same (bits_do no_bits (code_of s)).1 no_bits else false

abbrev all_read_back : ℕ → Bool
all_read_back zero = true
all_read_back (suc n) = reads_back n && all_read_back n

codes_hold : all_read_back 257 ≡ true
unfolding code_of huffman_codes
codes_hold = refl

code_holds : (s : ℕ) → s < 257 → reads_back s ≡ true
code_holds =
    (Decides-below_and reads_back (λ s. reads_back s ≡ true) all_read_back (λ s. (λ e. e, λ e. e)) refl (λ _. refl)
    257).0 codes_hold

-- the bits of a code are its symbol, and nothing is left of them
pub code_read : (s : ℕ) → s < 257
    → ((bits_do no_bits (code_of s)).0 ≡ s ∷ []) × ((bits_do no_bits (code_of s)).1 ≡ no_bits)
code_read s l =
    let h = both (bytes_eq (bits_do no_bits (code_of s)).0 (s ∷ []))
    (same (bits_do no_bits (code_of s)).1 no_bits) (code_holds s l) in
    ((bytes_eq-Decides _ _).0 h.0, same_is (bits_do no_bits (code_of s)).1 no_bits h.1)

-- a code, and what stands behind it
one_code : (s : ℕ) (more : List ℕ) → s < 257
    → text_from no_bits (code_of s ++ more) ≡ spelled (Some s) (text_from no_bits more)
one_code s more l =
    let r = code_read s l in
    text_bits no_bits (code_of s) more
    ∙ (ap (λ (ss : List ℕ). spelled_all ss (text_from (bits_do no_bits (code_of s)).1 more)) r.0
    ∙ ap (λ (p : CodePrefix). spelled (Some s) (text_from p more)) r.1)

byte_code : (s : ℕ) (more text : List ℕ) → s < 256 → text_from no_bits more ≡ Some text
    → text_from no_bits (code_of s ++ more) ≡ Some (s ∷ text)
byte_code s more text l e =
    let n : (s == 256) ≡ false = ne_eqb s 256 (omega arith) in
    one_code s more (omega arith) ∙ (ap (spelled (Some s)) e ∙ rw n refl)

-- up to seven ones are padding
ones_end : (n : ℕ) → n < 8 → text_from no_bits (take n (code_of 256)) ≡ Some []
unfolding code_of huffman_codes
ones_end zero l = refl
ones_end (suc zero) l = refl
ones_end (suc (suc zero)) l = refl
ones_end (suc (suc (suc zero))) l = refl
ones_end (suc (suc (suc (suc zero)))) l = refl
ones_end (suc (suc (suc (suc (suc zero))))) l = refl
ones_end (suc (suc (suc (suc (suc (suc zero)))))) l = refl
ones_end (suc (suc (suc (suc (suc (suc (suc zero))))))) l = refl
ones_end (suc (suc (suc (suc (suc (suc (suc (suc n)))))))) l = absurd (omega arith)

padding_ends : (bits : List ℕ) → IsPadding bits → text_from no_bits bits ≡ Some []
padding_ends bits p =
    let front : take (length bits) (code_of 256) ≡ bits =
    ap (take (length bits)) p.begins.1 ∙ take-append_seam bits p.begins.0 in
    ap (text_from no_bits) (sym front) ∙ ones_end (length bits) p.few

-- the codes of a text and padding spell the text
codes_spell : (text padding : List ℕ) → AllByRecursion (λ s. s < 256) text → IsPadding padding
    → text_from no_bits (codes_of text ++ padding) ≡ Some text
codes_spell [] padding b p = padding_ends padding p
codes_spell (s ∷ ss) padding b p =
    ap (text_from no_bits) (append_assoc (code_of s) (codes_of ss) padding)
    ∙ byte_code s (codes_of ss ++ padding) ss b.0 (codes_spell ss padding b.1 p)

-- bits that end a code are that of the symbol, and others lead to where the rest is tested
abbrev ends_well : (CodePrefix → List ℕ → Bool) → List ℕ → Option ℕ → CodePrefix → Bool
ends_well go bits None p = go p bits
ends_well go bits (Some s) p =
    if nat_lt s 257 then (if bytes_eq (code_of s) bits then same p no_bits else false) else false

-- bits that are padding are fewer than eight, with which the code of symbol 256 begins
abbrev pads_well : CodePrefix → List ℕ → Bool
pads_well p bits =
    if is_padding p
    then (if nat_lt (length bits) 8 then bytes_eq (take (length bits) (code_of 256)) bits else false)
    else true

-- from these bits on, which are no whole code and lead here, the codes are those of the symbols
abbrev goes_well : ℕ → CodePrefix → List ℕ → Bool
goes_well zero p bits = false
goes_well (suc k) p bits =
    if pads_well p bits then
    (if ends_well (goes_well k) (bits ++ 0 ∷ []) (next_bit p 0).0 (next_bit p 0).1
    then ends_well (goes_well k) (bits ++ 1 ∷ []) (next_bit p 1).0 (next_bit p 1).1
    else false)
    else false

all_go_well : goes_well 31 no_bits [] ≡ true
unfolding code_of huffman_codes
all_go_well = refl

-- these bits, and those that follow, are the codes of a text and padding
pub record AreCodes (front bits text : List ℕ) : Type 0 where
  pub padding : List ℕ
  pub are : front ++ bits ≡ codes_of text ++ padding
  pub ends : IsPadding padding
  pub bytes : AllByRecursion (λ s. s < 256) text

-- each is a bit
abbrev AreBits : List ℕ → Type 0
AreBits bits = AllByRecursion (λ b. b < 2) bits

by_bit : (k : ℕ) (p : CodePrefix) (bits : List ℕ) (x : ℕ) → x < 2 → goes_well (suc k) p bits ≡ true
    → ends_well (goes_well k) (bits ++ x ∷ []) (next_bit p x).0 (next_bit p x).1 ≡ true
by_bit k p bits x l h =
    let zeros = ends_well (goes_well k) (bits ++ 0 ∷ []) (next_bit p 0).0 (next_bit p 0).1 in
    let ones = ends_well (goes_well k) (bits ++ 1 ∷ []) (next_bit p 1).0 (next_bit p 1).1 in
    let all = both zeros ones (both (pads_well p bits) (if zeros then ones else false) h).1 in
    bit_is (λ y. ends_well (goes_well k) (bits ++ y ∷ []) (next_bit p y).0 (next_bit p y).1 ≡ true) x l all.0 all.1
  where
    bit_is : (P : ℕ → Type 0) (y : ℕ) → y < 2 → P 0 → P 1 → P y
    bit_is P zero m a b = a
    bit_is P (suc zero) m a b = b
    bit_is P (suc (suc y)) m a b = absurd (omega arith)

padding_by : (p : CodePrefix) (bits text : List ℕ) (test : Bool) → is_padding p ≡ test → pads_well p bits ≡ true
    → (if test then Some [] else None) ≡ Some text → AreCodes bits [] text
padding_by p bits text false e h g = absurd (cc)
padding_by p bits [] true e h g =
    let w = rw e at h in
    let q = both (nat_lt (length bits) 8) (bytes_eq (take (length bits) (code_of 256)) bits) w in
    let front : take (length bits) (code_of 256) ≡ bits = (bytes_eq-Decides _ _).0 q.1 in
    record {
      padding = bits;
      are = append-nil bits;
      ends = record {
        few = ltb-true (length bits) 8 q.0;
        begins = (
          drop (length bits) (code_of 256),
          sym (take-append-drop (length bits) (code_of 256))
              ∙ ap (λ (xs : List ℕ). xs ++ drop (length bits) (code_of 256)) front,
        );
      };
      bytes = tt;
    }
padding_by p bits (s ∷ ss) true e h g = absurd (cc)

-- what is left of a coded text, from bits on that are no whole code
abbrev AllAreCodes : List ℕ → Type 0
AllAreCodes xs =
    (k : ℕ) (p : CodePrefix) (front text : List ℕ) → goes_well k p front ≡ true → AreBits xs
    → text_from p xs ≡ Some text → AreCodes front xs text

-- the text behind a symbol
record Behind (s : ℕ) (more : Option (List ℕ)) (text : List ℕ) : Type 0 where
  rest : List ℕ
  small : s < 256
  more_is : more ≡ Some rest
  text_is : text ≡ s ∷ rest

behind_by : (s : ℕ) (more : Option (List ℕ)) (text : List ℕ) (end : Bool) → (s == 256) ≡ end → s < 257
    → (if end then None else option_map (λ (xs : List ℕ). s ∷ xs) more) ≡ Some text → Behind s more text
behind_by s more text true e l h = absurd (cc)
behind_by s None text false e l h = absurd (cc)
behind_by s (Some rest) text false e l h = record {
  rest = rest;
  small = grind (arith, e);
  more_is = refl;
  text_is = sym (cc);
}

one_more : (xs front text : List ℕ) (x k s : ℕ) (p : CodePrefix) → AllAreCodes xs → AreBits xs
    → ends_well (goes_well k) (front ++ x ∷ []) (Some s) p ≡ true → spelled (Some s) (text_from p xs) ≡ Some text
    → AreCodes front (x ∷ xs) text
one_more xs front text x k s p ih b h e =
    let t = both (nat_lt s 257) (if bytes_eq (code_of s) (front ++ x ∷ []) then same p no_bits else false) h in
    let q = both (bytes_eq (code_of s) (front ++ x ∷ [])) (same p no_bits) t.1 in
    let code : code_of s ≡ front ++ x ∷ [] = (bytes_eq-Decides _ _).0 q.0 in
    let fresh : p ≡ no_bits = same_is p no_bits q.1 in
    let r = behind_by s (text_from p xs) text (s == 256) refl (ltb-true s 257 t.0) e in
    let all = ih 31 no_bits [] r.rest all_go_well b (ap (λ (w : CodePrefix). text_from w xs) (sym fresh) ∙ r.more_is) in
    record {
      padding = all.padding;
      are =
          sym (append_assoc front (x ∷ []) xs)
          ∙ (ap (λ (ys : List ℕ). ys ++ xs) (sym code)
          ∙ (ap (λ (ys : List ℕ). code_of s ++ ys) all.are
          ∙ (sym (append_assoc (code_of s) (codes_of r.rest) all.padding)
          ∙ ap (λ (ys : List ℕ). codes_of ys ++ all.padding) (sym r.text_is))));
      ends = all.ends;
      bytes = subst (AllByRecursion (λ n. n < 256)) (sym r.text_is) (r.small, all.bytes);
    }

one_longer : (xs front text : List ℕ) (x k : ℕ) (o : Option ℕ) (p : CodePrefix) → AllAreCodes xs → AreBits xs
    → ends_well (goes_well k) (front ++ x ∷ []) o p ≡ true → spelled o (text_from p xs) ≡ Some text
    → AreCodes front (x ∷ xs) text
one_longer xs front text x k (Some s) p ih b h e = one_more xs front text x k s p ih b h e
one_longer xs front text x k None p ih b h e =
    let all = ih k p (front ++ x ∷ []) text h b e in
    record {
      padding = all.padding;
      are = sym (append_assoc front (x ∷ []) xs) ∙ all.are;
      ends = all.ends;
      bytes = all.bytes;
    }

all_are_codes : (xs : List ℕ) → AllAreCodes xs
all_are_codes [] zero p front text h b e = absurd (false≢true h)
all_are_codes [] (suc k) p front text h b e =
    padding_by p front text (is_padding p) refl
    (both (pads_well p front)
    (if ends_well (goes_well k) (front ++ 0 ∷ []) (next_bit p 0).0 (next_bit p 0).1
    then ends_well (goes_well k) (front ++ 1 ∷ []) (next_bit p 1).0 (next_bit p 1).1
    else false) h).0 e
all_are_codes (x ∷ xs) zero p front text h b e = absurd (false≢true h)
all_are_codes (x ∷ xs) (suc k) p front text h b e =
    one_longer xs front text x k (next_bit p x).0 (next_bit p x).1 (all_are_codes xs) b.1 (by_bit k p front x b.0 h) e

-- the bits of bytes are bits
bytes_are_bits : (bs : List ℕ) → AllBytes bs → AreBits (bits_of bs)
bytes_are_bits [] h = tt
bytes_are_bits (b ∷ bs) h =
    let l : b < 256 = h.0 in (
      omega arith,
      (
        omega arith,
        (
          omega arith,
          (
            omega arith,
            (omega arith, (omega arith, (omega arith, (omega arith, bytes_are_bits bs h.1)))),
          ),
        ),
      ),
    )

-- coded bytes spell a text exactly where their bits are its codes and padding
pub coded_is : (coded text : List ℕ) → AreBytes coded → (huffman_text coded ≡ Some text) ↔ IsHuffmanCoded text coded
unfolding huffman_text
coded_is coded text bytes = (
  λ e.
      let bits = bytes_are_bits coded (bytes_all coded bytes) in
      let all = all_are_codes (bits_of coded) 31 no_bits [] text all_go_well bits e in
      record { padding = all.padding; bits = all.are; ends = all.ends; bytes = all.bytes },
  λ c. ap (text_from no_bits) c.bits ∙ codes_spell text c.padding c.bytes c.ends,
)

-- bits behind others: the symbols of the first, and then those of the others
symbols_behind : (p : CodePrefix) (xs ys : List ℕ)
    → (bits_do p (xs ++ ys)).0 ≡ (bits_do p xs).0 ++ (bits_do (bits_do p xs).1 ys).0
symbols_behind p [] ys = refl
symbols_behind p (x ∷ xs) ys =
    ap (before (next_bit p x).0) (symbols_behind (next_bit p x).1 xs ys)
    ∙ before_all (next_bit p x).0 (bits_do (next_bit p x).1 xs).0 (bits_do (bits_do (next_bit p x).1 xs).1 ys).0
  where
    before_all : (o : Option ℕ) (ss ts : List ℕ) → before o (ss ++ ts) ≡ before o ss ++ ts
    before_all None ss ts = refl
    before_all (Some s) ss ts = refl

-- no code begins another
pub prefix_free : (s t : ℕ) → s < 257 → t < 257 → Extends (code_of s) (code_of t) → s ≡ t
prefix_free s t l m h =
    let a = code_read s l in
    let b = code_read t m in
    let more = (bits_do (bits_do no_bits (code_of s)).1 h.0).0 in
    let e : s ∷ more ≡ t ∷ [] =
    ap (λ (ss : List ℕ). ss ++ more) (sym a.0)
    ∙ (sym (symbols_behind no_bits (code_of s) h.0)
    ∙ (ap (λ (bits : List ℕ). (bits_do no_bits bits).0) (sym h.1) ∙ b.0)) in
    ap (λ (ss : List ℕ). get_or ss 0 0) e
