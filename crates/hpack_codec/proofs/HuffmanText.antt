-- A text that is spelled byte by byte.
use Rattle.std.proofs.Common.{◌≡◌, ◌≢◌, ◌==◌, ◌+◌, ◌<◌, ◌≤◌, ◌++◌, ◌-◌, length-drop, ℕ, suc, Bool, true, false, List, [], ◌∷◌, length, get_or, take, drop, Option, Some, None, refl, ap, sym, ◌∙◌, subst, arith, append_assoc, add-one, length-append, append-nil, if◌then◌else◌}
use Rattle.std.specs.Option.{option_map, is_some, IsSomeAnd}
use Rattle.std.specs.Prelude.{nat_lt, not}
use Rattle.std.proofs.lemmas.Bool.{false≢true}
use Rattle.std.proofs.lemmas.List.{drop-append-le, take-append-le, drop_all, take_rest}
use Rattle.std.proofs.Math.Seq.{drop-cons, take-length, drop-length}
use Rattle.std.proofs.lemmas.Bool.Decides.{nat_tests}
use borrow.Author.Tests.{eqb-true}
use Rattle.hpack_codec.specs.Huffman.{bits_of, text_from, huffman_text, is_padding}
use Rattle.hpack_codec.specs.HuffmanStates.{states, state_of, spelled_by, symbol_text, after_text, IsByteStep}
use Rattle.hpack_codec.proofs.HuffmanSteps.{some_by, none_spelled}

-- the bytes from one on, by a step
pub byte_at : (s i first second next : ℕ) (coded : List ℕ) → i < length coded → IsByteStep s (get_or coded i 0) first second next
    → text_from (state_of s) (bits_of (drop i coded)) ≡ spelled_by first (spelled_by second (text_from (state_of next) (bits_of (drop (i + 1) coded))))
byte_at s i first second next coded l h = rw (add-one, drop-cons coded i 0 l) (h.spells (drop (suc i) coded))

-- whether there is a text does not depend on the symbols
pub some_after : (first second : ℕ) (text : Option (List ℕ)) → first ≢ 257 → second ≢ 257 → is_some (spelled_by first (spelled_by second text)) ≡ is_some text
some_after first second text h k = some_by first (spelled_by second text) h ∙ some_by second text k

-- an end of string spells nothing
pub no_text_first : (first : ℕ) (text : Option (List ℕ)) → first ≡ 257 → spelled_by first text ≡ None
no_text_first first text e = rw e refl

-- nor does it behind another entry
pub no_text_second : (first second : ℕ) (text : Option (List ℕ)) → second ≡ 257 → spelled_by first (spelled_by second text) ≡ None
no_text_second first second text e = rw e (none_spelled first)

after_twice : (a b : List ℕ) (text : Option (List ℕ)) → after_text a (after_text b text) ≡ after_text (a ++ b) text
after_twice a b None = refl
after_twice a b (Some xs) = ap (λ (ys : List ℕ). Some ys) (sym (append_assoc a b xs))

after_none : (text : Option (List ℕ)) → after_text [] text ≡ text
after_none None = refl
after_none (Some xs) = refl

after_one : (y : ℕ) (text : Option (List ℕ)) → option_map (λ (xs : List ℕ). y ∷ xs) text ≡ after_text (y ∷ []) text
after_one y None = refl
after_one y (Some xs) = refl

by_test : (y : ℕ) (text : Option (List ℕ)) (none end small : Bool) → (y == 256) ≡ none → (y == 257) ≡ end → nat_lt y 256 ≡ small → y < 258 → y ≢ 257
    → spelled_by y text ≡ after_text (symbol_text y) text
by_test y text true end true e f g l h = absurd (grind (arith, nat_tests))
by_test y text true end false e f g l h = rw (e, g) (sym (after_none text))
by_test y text false true small e f g l h = absurd (h (eqb-true y 257 f))
by_test y text false false true e f g l h = rw (e, f, g) (after_one y text)
by_test y text false false false e f g l h = absurd (grind (arith, nat_tests))

-- an entry that ends no string puts its symbol before the text
pub by_symbol : (y : ℕ) (text : Option (List ℕ)) → y < 258 → y ≢ 257 → spelled_by y text ≡ after_text (symbol_text y) text
by_symbol y text l h = by_test y text (y == 256) (y == 257) (nat_lt y 256) refl refl refl l h

-- what was appended so far, and what is still to be spelled
pub record IsTextSoFar (coded old out : List ℕ) (state i : ℕ) : Type 0 where
  pub kept : take (length old) out ≡ old
  pub longer : length old ≤ length out
  pub spells : text_from (state_of 0) (bits_of coded) ≡ after_text (drop (length old) out) (text_from (state_of state) (bits_of (drop i coded)))

-- nothing was appended, and all is still to be spelled
pub text_none : (coded old : List ℕ) → IsTextSoFar coded old old 0 0
text_none coded old = record {
  kept = take-length old;
  longer = omega arith;
  spells = sym (ap (λ (xs : List ℕ). after_text xs (text_from (state_of 0) (bits_of coded))) (drop-length old) ∙ after_none (text_from (state_of 0) (bits_of coded)));
}

-- one more piece at the end
push_kept : (old out more : List ℕ) → length old ≤ length out → take (length old) out ≡ old → take (length old) (out ++ more) ≡ old
push_kept old out more l h = take-append-le (length old) out more l ∙ h

-- the symbols of one byte more were appended
pub text_more : (coded old out : List ℕ) (s i first second next : ℕ) → i < length coded → IsByteStep s (get_or coded i 0) first second next → first ≢ 257 → second ≢ 257
    → IsTextSoFar coded old out s i → IsTextSoFar coded old ((out ++ symbol_text first) ++ symbol_text second) next (i + 1)
text_more coded old out s i first second next l step h k so =
    let a = symbol_text first in
    let b = symbol_text second in
    let rest = text_from (state_of next) (bits_of (drop (i + 1) coded)) in
    let d1 : drop (length old) (out ++ a) ≡ drop (length old) out ++ a = drop-append-le (length old) out a so.longer in
    let longer1 : length old ≤ length (out ++ a) = rw length-append (omega (arith, so.longer)) in
    let d2 : drop (length old) ((out ++ a) ++ b) ≡ drop (length old) (out ++ a) ++ b = drop-append-le (length old) (out ++ a) b longer1 in
    let d3 : drop (length old) ((out ++ a) ++ b) ≡ (drop (length old) out ++ a) ++ b = d2 ∙ ap (λ (xs : List ℕ). xs ++ b) d1 in
    let longer2 : length old ≤ length ((out ++ a) ++ b) = rw length-append (omega (arith, longer1)) in
    let t1 : text_from (state_of s) (bits_of (drop i coded)) ≡ after_text a (after_text b rest) =
    byte_at s i first second next coded l step ∙ (by_symbol first (spelled_by second rest) step.first_small h ∙ ap (after_text a) (by_symbol second rest step.second_small k)) in
    record {
      kept = push_kept old (out ++ a) b longer1 (push_kept old out a so.longer so.kept);
      longer = longer2;
      spells = so.spells ∙ (ap (after_text (drop (length old) out)) t1 ∙ (after_twice (drop (length old) out) a (after_text b rest) ∙ (after_twice (drop (length old) out ++ a) b rest ∙ ap (λ (xs : List ℕ). after_text xs rest) (sym d3))));
    }

-- the slice that the code reads is the rest
pub is_rest : (s n : ℕ) (r : Bool) (xs : List ℕ) → r ≡ is_some (text_from (state_of s) (bits_of (take (length xs - n) (drop n xs)))) → r ≡ is_some (text_from (state_of s) (bits_of (drop n xs)))
is_rest s n r xs e = e ∙ ap (λ (ys : List ℕ). is_some (text_from (state_of s) (bits_of ys))) (take_rest xs n)

-- what the answer of a step says of its entry
pub goes_on : (y : ℕ) (r : Bool) → r ≡ not (y == 257) → r ≡ true → y ≢ 257
goes_on y r e t h = let f : (y == 257) ≡ true = rw h refl in false≢true (sym (rw f at e) ∙ t)

-- an entry that answers no is an end of string
pub has_ended : (y : ℕ) (r test : Bool) → (y == 257) ≡ test → r ≡ not (y == 257) → r ≡ false → y ≡ 257
has_ended y r true g e f = eqb-true y 257 g
has_ended y r false g e f = absurd (false≢true (sym f ∙ (rw g at e)))

from_start : (coded : List ℕ) → huffman_text coded ≡ text_from (state_of 0) (bits_of coded)
unfolding huffman_text states
from_start coded = refl

-- where the rest spells no text, the whole does not
pub no_text : (coded old out : List ℕ) (s i : ℕ) → IsTextSoFar coded old out s i → text_from (state_of s) (bits_of (drop i coded)) ≡ None → huffman_text coded ≡ None
no_text coded old out s i so h = from_start coded ∙ (so.spells ∙ ap (after_text (drop (length old) out)) h)

none_of : (text : Option (List ℕ)) → is_some text ≡ false → text ≡ None
none_of None h = refl
none_of (Some xs) h = absurd (false≢true (sym h))

-- where the test of the rest fails, the whole spells no text
pub not_spelled : (coded old out : List ℕ) (s i : ℕ) (r : Bool) → IsTextSoFar coded old out s i → r ≡ is_some (text_from (state_of s) (bits_of (drop i coded))) → r ≡ false → huffman_text coded ≡ None
not_spelled coded old out s i r so e f = no_text coded old out s i so (none_of (text_from (state_of s) (bits_of (drop i coded))) (sym e ∙ f))

longer_after : (front : List ℕ) (text : Option (List ℕ)) (room : ℕ) → is_some text ≡ true → room < length front → IsSomeAnd (after_text front text) (λ (whole : List ℕ). room < length whole)
longer_after front None room h l = absurd (false≢true h)
longer_after front (Some xs) room h l = rw length-append (omega (arith, l))

-- a text that is past the room, and whose rest spells one, is longer than the room
pub text_over : (coded old out : List ℕ) (s i room : ℕ) (r : Bool) → IsTextSoFar coded old out s i → r ≡ is_some (text_from (state_of s) (bits_of (drop i coded))) → r ≡ true
    → length old + room < length out → IsSomeAnd (huffman_text coded) (λ (whole : List ℕ). room < length whole)
text_over coded old out s i room r so e t l =
    let longer : room < length (drop (length old) out) = rw length-drop (omega (arith, l)) in
    let all = longer_after (drop (length old) out) (text_from (state_of s) (bits_of (drop i coded))) room (sym e ∙ t) longer in
    subst (λ (text : Option (List ℕ)). IsSomeAnd text (λ (whole : List ℕ). room < length whole)) (sym (from_start coded ∙ so.spells)) all

at_end : (s : ℕ) (r : Bool) → is_padding (state_of s) ≡ r → text_from (state_of s) [] ≡ (if r then Some [] else None)
at_end s r e = rw e refl

-- with no byte left, a state that is padding ends the text that was appended
pub whole_text : (coded old out : List ℕ) (s i : ℕ) (r : Bool) → IsTextSoFar coded old out s i → length coded ≤ i → r ≡ is_padding (state_of s) → r ≡ true → huffman_text coded ≡ Some (drop (length old) out)
whole_text coded old out s i r so l e t =
    let none : drop i coded ≡ [] = drop_all i coded l in
    let rest : text_from (state_of s) (bits_of (drop i coded)) ≡ Some [] = rw none (at_end s true (sym e ∙ t)) in
    from_start coded ∙ (so.spells ∙ (ap (after_text (drop (length old) out)) rest ∙ ap (λ (xs : List ℕ). Some xs) (append-nil (drop (length old) out))))

-- with no byte left, any other state ends no text
pub bad_end : (coded old out : List ℕ) (s i : ℕ) (r : Bool) → IsTextSoFar coded old out s i → length coded ≤ i → r ≡ is_padding (state_of s) → r ≡ false → huffman_text coded ≡ None
bad_end coded old out s i r so l e t =
    let none : drop i coded ≡ [] = drop_all i coded l in
    let rest : text_from (state_of s) (bits_of (drop i coded)) ≡ None = rw none (at_end s false (sym e ∙ t)) in
    no_text coded old out s i so rest

-- a step, from the equations of its parts
pub text_more_by : (coded old out middle new : List ℕ) (s i first second next : ℕ) → i < length coded → IsByteStep s (get_or coded i 0) first second next → first ≢ 257 → second ≢ 257
    → middle ≡ out ++ symbol_text first → new ≡ middle ++ symbol_text second → IsTextSoFar coded old out s i → IsTextSoFar coded old new next (i + 1)
text_more_by coded old out middle new s i first second next l step h k e f so =
    let all : new ≡ (out ++ symbol_text first) ++ symbol_text second = f ∙ ap (λ (xs : List ℕ). xs ++ symbol_text second) e in
    subst (λ (xs : List ℕ). IsTextSoFar coded old xs next (i + 1)) (sym all) (text_more coded old out s i first second next l step h k so)
