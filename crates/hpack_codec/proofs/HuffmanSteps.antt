-- Each step of the table of four bits is what the four bits do.
use Rattle.std.proofs.Common.{◌≡◌, ◌==◌, ◌+◌, ◌/◌, ◌%◌, ◌<◌, ◌≢◌, ◌++◌, ℕ, zero, suc, Bool, true, false, List, [], ◌∷◌, length, get_or, Option, Some, None, if◌then◌else◌, refl, ap, sym, ◌∙◌, arith}
use Rattle.std.specs.Option.{option_map, is_some}
use Rattle.std.specs.Prelude.{nat_lt}
use Rattle.std.proofs.lemmas.Bool.{ne_eqb, false≢true}
use borrow.Author.Tests.{ltb-true, eqb-true}
use Rattle.hpack_codec.specs.Huffman.{CodePrefix, next_bit, four_bits, bits_of, no_bits, text_from, spelled, is_padding}
use Rattle.hpack_codec.specs.HuffmanStates.{states, state_of, spelled_by, at, IsStep, IsByteStep}
use Rattle.hpack_codec.specs.declared.huffman.next_states.TheConstants.{NEXT}
use Rattle.hpack_codec.specs.declared.huffman.symbols.TheConstants.{SYMBOL}

-- a symbol, if there is one, before others
abbrev pub before : Option ℕ → List ℕ → List ℕ
before None xs = xs
before (Some s) xs = s ∷ xs

-- what bits do: the symbols whose codes they end, and the bits behind
abbrev pub bits_do : CodePrefix → List ℕ → List ℕ × CodePrefix
bits_do p [] = ([], p)
bits_do p (b ∷ bs) = (before (next_bit p b).0 (bits_do (next_bit p b).1 bs).0, (bits_do (next_bit p b).1 bs).1)

-- the entry of the table for these symbols, or 258 where it has none
abbrev entry : List ℕ → ℕ
entry [] = 256
entry (s ∷ []) = if nat_lt s 256 then s else (if s == 256 then 257 else 258)
entry (s ∷ t ∷ ss) = 258

-- symbols before the text that goes on
abbrev pub spelled_all : List ℕ → Option (List ℕ) → Option (List ℕ)
spelled_all [] text = text
spelled_all (s ∷ ss) text = spelled (Some s) (spelled_all ss text)

spelled_before : (o : Option ℕ) (ss : List ℕ) (text : Option (List ℕ)) → spelled o (spelled_all ss text) ≡ spelled_all (before o ss) text
spelled_before None ss text = refl
spelled_before (Some s) ss text = refl

-- the text behind bits: their symbols, and what goes on
pub text_bits : (p : CodePrefix) (bits more : List ℕ) → text_from p (bits ++ more) ≡ spelled_all (bits_do p bits).0 (text_from (bits_do p bits).1 more)
text_bits p [] more = refl
text_bits p (b ∷ bits) more =
    ap (spelled (next_bit p b).0) (text_bits (next_bit p b).1 bits more)
    ∙ spelled_before (next_bit p b).0 (bits_do (next_bit p b).1 bits).0 (text_from (bits_do (next_bit p b).1 bits).1 more)

-- a test that is true, and the other that it guards
pub both : (b c : Bool) → (if b then c else false) ≡ true → (b ≡ true) × (c ≡ true)
both true c h = (refl, h)
both false c h = absurd (false≢true h)

-- two tests have one answer
abbrev same_truth : Bool → Bool → Bool
same_truth true b = b
same_truth false true = false
same_truth false false = true

same_truth_is : (a b : Bool) → same_truth a b ≡ true → a ≡ b
same_truth_is true b h = sym h
same_truth_is false true h = absurd (false≢true h)
same_truth_is false false h = refl

-- two states have the same bits
abbrev pub same : CodePrefix → CodePrefix → Bool
same p q = if p.bits == q.bits then (if p.offset == q.offset then same_truth p.ones q.ones else false) else false

-- states that the test calls the same are equal
pub same_is : (p q : CodePrefix) → same p q ≡ true → p ≡ q
same_is p q h =
    let h1 = both (p.bits == q.bits) (if p.offset == q.offset then same_truth p.ones q.ones else false) h in
    let h2 = both (p.offset == q.offset) (same_truth p.ones q.ones) h1.1 in
    let e1 : p.bits ≡ q.bits = eqb-true p.bits q.bits h1.0 in
    let e2 : p.offset ≡ q.offset = eqb-true p.offset q.offset h2.0 in
    let e3 : p.ones ≡ q.ones = same_truth_is p.ones q.ones h2.1 in
    ap (λ (n : ℕ). at n p.offset p.ones) e1 ∙ (ap (λ (n : ℕ). at q.bits n p.ones) e2 ∙ ap (λ (b : Bool). at q.bits q.offset b) e3)

-- an entry of the table is what four bits do
abbrev entry_holds : List CodePrefix → CodePrefix → ℕ → ℕ → ℕ → Bool
entry_holds all p n next s =
    if nat_lt s 258 then (if entry (bits_do p (four_bits n)).0 == s then same (bits_do p (four_bits n)).1 (get_or all next no_bits) else false) else false

-- each entry of a row is what the four bits of its number do
abbrev row_holds : List CodePrefix → CodePrefix → ℕ → List ℕ → List ℕ → Bool
row_holds all p n [] symbols = true
row_holds all p n (next ∷ nexts) [] = false
row_holds all p n (next ∷ nexts) (s ∷ symbols) = if entry_holds all p n next s then row_holds all p (n + 1) nexts symbols else false

-- each row is right for its state
abbrev rows_hold : List CodePrefix → List CodePrefix → List (List ℕ) → List (List ℕ) → Bool
rows_hold all [] nexts symbols = true
rows_hold all (p ∷ ps) [] symbols = false
rows_hold all (p ∷ ps) (n ∷ ns) [] = false
rows_hold all (p ∷ ps) (n ∷ ns) (s ∷ ss) = if row_holds all p 0 n s then rows_hold all ps ns ss else false

table_holds : rows_hold states states NEXT SYMBOL ≡ true
unfolding states
table_holds = refl

row_at : (all : List CodePrefix) (p : CodePrefix) (n : ℕ) (nexts symbols : List ℕ) (k : ℕ) → row_holds all p n nexts symbols ≡ true → k < length nexts
    → entry_holds all p (n + k) (get_or nexts k 0) (get_or symbols k 0) ≡ true
row_at all p n [] symbols k h l = absurd (omega arith)
row_at all p n (next ∷ nexts) [] k h l = absurd (false≢true h)
row_at all p n (next ∷ nexts) (s ∷ symbols) zero h l =
    let e : n + 0 ≡ n = omega arith in
    rw e (both (entry_holds all p n next s) (row_holds all p (n + 1) nexts symbols) h).0
row_at all p n (next ∷ nexts) (s ∷ symbols) (suc k) h l =
    let e : n + suc k ≡ (n + 1) + k = omega arith in
    rw e (row_at all p (n + 1) nexts symbols k (both (entry_holds all p n next s) (row_holds all p (n + 1) nexts symbols) h).1 (omega arith))

rows_at : (all ps : List CodePrefix) (nexts symbols : List (List ℕ)) (k : ℕ) → rows_hold all ps nexts symbols ≡ true → k < length ps
    → row_holds all (get_or ps k no_bits) 0 (get_or nexts k []) (get_or symbols k []) ≡ true
rows_at all [] nexts symbols k h l = absurd (omega arith)
rows_at all (p ∷ ps) [] symbols k h l = absurd (false≢true h)
rows_at all (p ∷ ps) (n ∷ ns) [] k h l = absurd (false≢true h)
rows_at all (p ∷ ps) (n ∷ ns) (s ∷ ss) zero h l = (both (row_holds all p 0 n s) (rows_hold all ps ns ss) h).0
rows_at all (p ∷ ps) (n ∷ ns) (s ∷ ss) (suc k) h l = rows_at all ps ns ss k (both (row_holds all p 0 n s) (rows_hold all ps ns ss) h).1 (omega arith)

one_spells : (s : ℕ) (text : Option (List ℕ)) (small end : Bool) → nat_lt s 256 ≡ small → (s == 256) ≡ end → entry (s ∷ []) < 258
    → spelled (Some s) text ≡ spelled_by (entry (s ∷ [])) text
one_spells s text true end e f h =
    let l : s < 256 = ltb-true s 256 e in
    let a : (s == 256) ≡ false = ne_eqb s 256 (omega arith) in
    let b : (s == 257) ≡ false = ne_eqb s 257 (omega arith) in
    rw (e, a, b) refl
one_spells s text false true e f h = rw (e, f) refl
one_spells s text false false e f h = let g : 258 < 258 = rw (e, f) at h in absurd (omega arith)

spells : (ss : List ℕ) (text : Option (List ℕ)) → entry ss < 258 → spelled_all ss text ≡ spelled_by (entry ss) text
spells [] text h = refl
spells (s ∷ []) text h = one_spells s text (nat_lt s 256) (s == 256) refl refl h
spells (s ∷ t ∷ ss) text h = absurd (omega arith)

-- each row has sixteen entries
abbrev all_sixteen : List (List ℕ) → Bool
all_sixteen [] = true
all_sixteen (r ∷ rs) = if length r == 16 then all_sixteen rs else false

sixteen : all_sixteen NEXT ≡ true
sixteen = refl

sixteen_at : (rs : List (List ℕ)) (k : ℕ) → all_sixteen rs ≡ true → k < length rs → length (get_or rs k []) ≡ 16
sixteen_at [] k h l = absurd (omega arith)
sixteen_at (r ∷ rs) zero h l = eqb-true (length r) 16 (both (length r == 16) (all_sixteen rs) h).0
sixteen_at (r ∷ rs) (suc k) h l = sixteen_at rs k (both (length r == 16) (all_sixteen rs) h).1 (omega arith)

states_len : length states ≡ 256
unfolding states
states_len = refl

step_of : (p q : CodePrefix) (four symbol next : ℕ) → q ≡ state_of next → entry_holds states p four next symbol ≡ true → (more : List ℕ)
    → (symbol < 258) × (text_from p (four_bits four ++ more) ≡ spelled_by symbol (text_from q more))
step_of p q four symbol next e h more =
    let ss = (bits_do p (four_bits four)).0 in
    let r = (bits_do p (four_bits four)).1 in
    let h1 = both (nat_lt symbol 258) (if entry ss == symbol then same r (state_of next) else false) h in
    let h2 = both (entry ss == symbol) (same r (state_of next)) h1.1 in
    let small : symbol < 258 = ltb-true symbol 258 h1.0 in
    let e1 : entry ss ≡ symbol = eqb-true (entry ss) symbol h2.0 in
    let e2 : r ≡ state_of next = same_is r (state_of next) h2.1 in
    let fits : entry ss < 258 = omega arith in
    (small, text_bits p (four_bits four) more ∙ (spells ss (text_from r more) fits ∙ (ap (λ (y : ℕ). spelled_by y (text_from r more)) e1 ∙ ap (λ (w : CodePrefix). spelled_by symbol (text_from w more)) (e2 ∙ sym e))))

-- each entry of the table is one step
pub step_is : (state four : ℕ) → state < 256 → four < 16
    → IsStep state four (get_or (get_or SYMBOL state []) four 0) (get_or (get_or NEXT state []) four 0)
step_is state four hs hf =
    let len : length states ≡ 256 = states_len in
    let within : state < length states = omega arith in
    let rows = rows_at states states NEXT SYMBOL state table_holds within in
    let width : length (get_or NEXT state []) ≡ 16 = sixteen_at NEXT state sixteen (omega arith) in
    let at_four = row_at states (state_of state) 0 (get_or NEXT state []) (get_or SYMBOL state []) four rows (omega arith) in
    let zero-four : 0 + four ≡ four = omega arith in
    let here = rw zero-four at at_four in
    let next = get_or (get_or NEXT state []) four 0 in
    record {
      small = (step_of (state_of state) (state_of next) four _ next refl here []).0;
      spells = λ more. (step_of (state_of state) (state_of next) four _ next refl here more).1;
    }

-- the states below 8 are those whose bits are padding
abbrev ends_hold : List CodePrefix → ℕ → Bool
ends_hold [] n = true
ends_hold (p ∷ ps) n = if same_truth (nat_lt n 8) (is_padding p) then ends_hold ps (n + 1) else false

ends : ends_hold states 0 ≡ true
unfolding states
ends = refl

ends_at : (ps : List CodePrefix) (n k : ℕ) → ends_hold ps n ≡ true → k < length ps → nat_lt (n + k) 8 ≡ is_padding (get_or ps k no_bits)
ends_at [] n k h l = absurd (omega arith)
ends_at (p ∷ ps) n zero h l =
    let e : n + 0 ≡ n = omega arith in
    rw e (same_truth_is (nat_lt n 8) (is_padding p) (both (same_truth (nat_lt n 8) (is_padding p)) (ends_hold ps (n + 1)) h).0)
ends_at (p ∷ ps) n (suc k) h l =
    let e : n + suc k ≡ (n + 1) + k = omega arith in
    rw e (ends_at ps (n + 1) k (both (same_truth (nat_lt n 8) (is_padding p)) (ends_hold ps (n + 1)) h).1 (omega arith))

-- the states below 8 alone are padding
pub end_is : (s : ℕ) → s < 256 → nat_lt s 8 ≡ is_padding (state_of s)
end_is s h =
    let len : length states ≡ 256 = states_len in
    let e : 0 + s ≡ s = omega arith in
    let r = ends_at states 0 s ends (omega arith) in
    rw e at r

-- the steps of its two halves are the step of a byte
pub byte_is : (state byte first middle second next : ℕ) → IsStep state (byte / 16) first middle → IsStep middle (byte % 16) second next → IsByteStep state byte first second next
byte_is state byte first middle second next a b = record {
  first_small = a.small;
  second_small = b.small;
  spells = λ more. a.spells (four_bits (byte % 16) ++ bits_of more) ∙ ap (spelled_by first) (b.spells (bits_of more));
}

-- a text behind an entry of the table that ends no string
mapped : (y : ℕ) (text : Option (List ℕ)) → is_some (option_map (λ (xs : List ℕ). y ∷ xs) text) ≡ is_some text
mapped y None = refl
mapped y (Some xs) = refl

some_by_test : (y : ℕ) (text : Option (List ℕ)) (none end : Bool) → (y == 256) ≡ none → (y == 257) ≡ end → y ≢ 257 → is_some (spelled_by y text) ≡ is_some text
some_by_test y text true end e f h = rw e refl
some_by_test y text false true e f h = absurd (h (eqb-true y 257 f))
some_by_test y text false false e f h = rw (e, f) (mapped y text)

-- an entry that ends no string spells a text where the rest does
pub some_by : (y : ℕ) (text : Option (List ℕ)) → y ≢ 257 → is_some (spelled_by y text) ≡ is_some text
some_by y text h = some_by_test y text (y == 256) (y == 257) refl refl h

none_test : (y : ℕ) (none end : Bool) → (y == 256) ≡ none → (y == 257) ≡ end → spelled_by y None ≡ None
none_test y true end e f = rw e refl
none_test y false true e f = rw (e, f) refl
none_test y false false e f = rw (e, f) refl

-- where the rest spells no text, no entry before it does
pub none_spelled : (y : ℕ) → spelled_by y None ≡ None
none_spelled y = none_test y (y == 256) (y == 257) refl refl

-- an end of string spells nothing
pub end_none : (text : Option (List ℕ)) → spelled_by 257 text ≡ None
end_none text = refl
