-- A guessed chunk size line is the one that the grammar prints.
use Rattle.std.proofs.Common.{◌≡◌, ℕ, Bool, true, false, not, ◌&&◌, ◌||◌, ◌==◌, All, List, [], ◌∷◌, ◌++◌, refl, sym, ap, ◌∙◌, subst, Option, Some, None, append-nil, append_assoc, if◌then◌else◌, bytes_eq}
use Rattle.std.specs.Char.{is_ascii_hexdigit}
use Rattle.std.proofs.lemmas.List.Sums.{AllPass-from_list_all, list_all-from_AllPass}
use Rattle.std.proofs.lemmas.List.Elements.{All-head}
use Rattle.std.proofs.lemmas.Bool.{and_from, and_parts, ltb-true, leb-true, lt-ltb, le-leb, eqb-true}
use Rattle.std.proofs.lemmas.Slice.Eq.{bytes_eq-Decides}
use Rattle.httparse.specs.Grammar.{AllPass, is_ows, is_extension_byte, IsExtension, print_extension, ChunkLine, IsChunkLine, print_chunk_line, ReadsChunkLine}
use Rattle.http1_requests.specs.GrammarReading.{before, from, is_extension, is_chunk_line, extension_guess, chunk_line_guess, checked_line, chunk_line_in}
use Rattle.http1_requests.proofs.GrammarLaw.{before_at, from_at, apart}

-- the list begins with a byte that passes
abbrev Stop : (ℕ → Bool) → List ℕ → Type 0
Stop test t = (c : ℕ) × (r : List ℕ) × (t ≡ c ∷ r) × (test c ≡ true)

before_stop : (test : ℕ → Bool) (w t : List ℕ) → All (λ b. test b ≡ false) w → Stop test t → before test (w ++ t) ≡ w
before_stop test w t all s = ap (λ (x : List ℕ). before test (w ++ x)) s.2 ∙ before_at test w s.0 s.1 all s.3

from_stop : (test : ℕ → Bool) (w t : List ℕ) → All (λ b. test b ≡ false) w → Stop test t → from test (w ++ t) ≡ t
from_stop test w t all s = ap (λ (x : List ℕ). from test (w ++ x)) s.2 ∙ from_at test w s.0 s.1 all s.3 ∙ sym s.2

abbrev tail_of : Option (List ℕ) → List ℕ
tail_of e = print_extension e ++ (13 ∷ 10 ∷ [])

tail_stop : (e : Option (List ℕ)) → Stop (λ b. not (is_ows b)) (tail_of e)
tail_stop None = (13, 10 ∷ [], refl, refl)
tail_stop (Some text) = (59, text ++ 13 ∷ 10 ∷ [], refl, refl)

ows_outside : (b : ℕ) → is_ows b ≡ true → not (is_ascii_hexdigit b) ≡ true
ows_outside b h = by (b == 32) refl (b == 9) refl h
  where
    by : (s : Bool) → (b == 32) ≡ s → (t : Bool) → (b == 9) ≡ t → (s || t) ≡ true → not (is_ascii_hexdigit b) ≡ true
    by true e t f x = subst (λ (k : ℕ). not (is_ascii_hexdigit k) ≡ true) (sym (eqb-true _ _ e)) refl
    by false e true f x = subst (λ (k : ℕ). not (is_ascii_hexdigit k) ≡ true) (sym (eqb-true _ _ f)) refl
    by false e false f x = absurd (cc)

pad_stop : (pad : List ℕ) (e : Option (List ℕ)) → AllPass is_ows pad
    → Stop (λ b. not (is_ascii_hexdigit b)) (pad ++ tail_of e)
pad_stop [] None all = (13, 10 ∷ [], refl, refl)
pad_stop [] (Some text) all = (59, text ++ 13 ∷ 10 ∷ [], refl, refl)
pad_stop (p ∷ pad) e all = (p, pad ++ tail_of e, refl, ows_outside p (All-head (λ v. is_ows v ≡ true) p pad all))

no_return : (b : ℕ) → is_extension_byte b ≡ true → (b == 13) ≡ false
no_return b h = apart is_extension_byte 13 b refl h

extension_guessed : (e : Option (List ℕ)) → IsExtension e → extension_guess (tail_of e) ≡ e
extension_guessed None h = refl
extension_guessed (Some text) h =
    ap (λ (t : List ℕ). Some t) (before_at (λ b. b == 13) text 13 (10 ∷ []) (λ k d l. no_return _ (h k d l)) refl)

line_guessed : (l : ChunkLine) → IsChunkLine l → chunk_line_guess (l.digits ++ (l.pad ++ tail_of l.extension)) ≡ l
line_guessed l v =
    let digits : All (λ b. not (is_ascii_hexdigit b) ≡ false) l.digits = λ k d x. ap not (v.digits.2 k d x) in
    let pads : All (λ b. not (is_ows b) ≡ false) l.pad = λ k d x. ap not (v.pad k d x) in
    let stop = pad_stop l.pad l.extension v.pad in
    rw (
      before_stop (λ b. not (is_ascii_hexdigit b)) l.digits (l.pad ++ tail_of l.extension) digits stop,
      from_stop (λ b. not (is_ascii_hexdigit b)) l.digits (l.pad ++ tail_of l.extension) digits stop,
      before_stop (λ b. not (is_ows b)) l.pad (tail_of l.extension) pads (tail_stop l.extension),
      from_stop (λ b. not (is_ows b)) l.pad (tail_of l.extension) pads (tail_stop l.extension),
      extension_guessed l.extension v.extension,
    ) refl

test_from_extension : (e : Option (List ℕ)) → IsExtension e → is_extension e ≡ true
test_from_extension None h = refl
test_from_extension (Some text) h = list_all-from_AllPass is_extension_byte text h

extension_from_test : (e : Option (List ℕ)) → is_extension e ≡ true → IsExtension e
extension_from_test None h = tt
extension_from_test (Some text) h = AllPass-from_list_all is_extension_byte text h

test_from_line : (l : ChunkLine) → IsChunkLine l → is_chunk_line l ≡ true
test_from_line l v =
    and_from _ _ (lt-ltb _ _ v.digits.0)
    (and_from _ _ (le-leb _ _ v.digits.1)
    (and_from _ _ (list_all-from_AllPass is_ascii_hexdigit l.digits v.digits.2)
    (and_from _ _ (list_all-from_AllPass is_ows l.pad v.pad) (test_from_extension l.extension v.extension))))

line_from_test : (l : ChunkLine) → is_chunk_line l ≡ true → IsChunkLine l
line_from_test l e =
    let a = and_parts _ _ e in
    let b = and_parts _ _ a.1 in
    let c = and_parts _ _ b.1 in
    let d = and_parts _ _ c.1 in
    record {
      digits = (ltb-true _ _ a.0, leb-true _ _ b.0, AllPass-from_list_all is_ascii_hexdigit l.digits c.0);
      pad = AllPass-from_list_all is_ows l.pad d.0;
      extension = extension_from_test l.extension d.1;
    }

regroup : (a b c d : List ℕ) → a ++ b ++ c ++ d ≡ a ++ (b ++ (c ++ d))
regroup a b c d = simp (append_assoc)

printed_as : (l : ChunkLine) → print_chunk_line l ≡ l.digits ++ (l.pad ++ tail_of l.extension)
unfolding print_chunk_line
printed_as l = regroup l.digits l.pad (print_extension l.extension) (13 ∷ 10 ∷ [])

-- a chunk size line of the grammar is found
pub line_read : (bytes : List ℕ) (l : ChunkLine) → ReadsChunkLine bytes l [] → chunk_line_in bytes ≡ Some l
unfolding chunk_line_in
line_read bytes l x =
    let printed : bytes ≡ print_chunk_line l = x.1 ∙ append-nil (print_chunk_line l) in
    ap (checked_line bytes) (ap chunk_line_guess (printed ∙ printed_as l) ∙ line_guessed l x.0)
    ∙ ap (λ (t : Bool). if t then Some l else None)
    (and_from _ _ (test_from_line l x.0) ((bytes_eq-Decides (print_chunk_line l) bytes).1 (sym printed)))

some_same : (f g : ChunkLine) → ◌≡◌ {A = Option ChunkLine} (Some f) (Some g) → f ≡ g
some_same f g e = cc

-- a chunk size line that is found is one of the grammar
pub line_reads : (bytes : List ℕ) (l : ChunkLine) → chunk_line_in bytes ≡ Some l → ReadsChunkLine bytes l []
unfolding chunk_line_in
line_reads bytes l e =
    by (is_chunk_line (chunk_line_guess bytes) && bytes_eq (print_chunk_line (chunk_line_guess bytes)) bytes) refl e
  where
    by : (t : Bool) → (is_chunk_line (chunk_line_guess bytes)
        && bytes_eq (print_chunk_line (chunk_line_guess bytes)) bytes) ≡ t
        → (if t then Some (chunk_line_guess bytes) else None) ≡ Some l → ReadsChunkLine bytes l []
    by true both x =
        let parts = and_parts _ _ both in
        subst (λ (g : ChunkLine). ReadsChunkLine bytes g []) (some_same (chunk_line_guess bytes) l x) (
          line_from_test (chunk_line_guess bytes) parts.0,
          sym
              ((bytes_eq-Decides (print_chunk_line (chunk_line_guess bytes)) bytes).0 parts.1)
              ∙ sym (append-nil (print_chunk_line (chunk_line_guess bytes))),
        )
    by false both x = absurd (cc)
