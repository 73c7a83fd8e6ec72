-- A guessed head is the one that the grammar prints.
use Rattle.std.proofs.Common.{◌≡◌, ℕ, zero, suc, ◌+◌, ◌≤◌, Bool, true, false, ◌||◌, ◌&&◌, ◌==◌, All, List, [], ◌∷◌, ◌++◌, length, drop, get_or, nat_lt, ◌<◌, Option, Some, None, append-nil, length-append, if◌then◌else◌, bytes_eq, IsUtf8, ◌-◌, slice_index, refl, sym, ap, ◌∙◌, subst, arith, append_assoc, ne_eqb}
use Rattle.std.proofs.lemmas.List.Elements.{All-head, All-tail}
use Rattle.std.proofs.lemmas.Bool.{false≢true, or_from, and_parts}
use Rattle.httparse.proofs.GrammarLemmas.{cons-append, print_request-append}
use Rattle.httparse.specs.Grammar.{is_token_byte, is_value_byte, AllPass, IsToken, LineEnd, crlf, lf, print_end, print_blank, print_version, RequestHead, IsRequestHead, print_request, ReadsRequest, is_uri_byte, is_token, Field, print_field, IsField, print_section}
use Rattle.http1_requests.specs.HeadEnd.{begins_empty_line, behind_empty_lines}
use Rattle.http1_requests.specs.GrammarReading.{before, from, is_line_end, end_of, end_size, empty_lines_within, field_of, behind_field, fields_within, behind_fields, is_field, is_text, is_request_head, checked_head, section_guess, version_guess, target_guess, method_guess, head_guess, head_in}
use Rattle.std.specs.List.{list_all}
use Rattle.std.specs.Str.{is_utf8}
use Rattle.std.proofs.lemmas.List.Sums.{AllPass-from_list_all, list_all-from_AllPass}
use Rattle.std.proofs.lemmas.Bool.{and_from, ltb-true, leb-true, lt-ltb, le-leb}
use Rattle.std.proofs.lemmas.Str.{IsUtf8-from_is_utf8, is_utf8-from_IsUtf8, IsUtf8-from_ascii}
use Rattle.std.proofs.lemmas.Slice.Eq.{bytes_eq-Decides}

-- a byte of a class is none that is outside it
pub apart : (P : ℕ → Bool) (c b : ℕ) → P c ≡ false → P b ≡ true → (b == c) ≡ false
apart P c b out within = ne_eqb _ _ (λ e. false≢true (sym out ∙ ap P (sym e) ∙ within))

-- the bytes before the first that passes a test
pub before_at : (test : ℕ → Bool) (w : List ℕ) (c : ℕ) (r : List ℕ) → All (λ b. test b ≡ false) w → test c ≡ true
    → before test (w ++ c ∷ r) ≡ w
unfolding before
before_at test [] c r all hit = rw hit refl
before_at test (b ∷ w) c r all hit =
    rw (All-head (λ v. test v ≡ false) b w all)
    (ap (λ (t : List ℕ). b ∷ t) (before_at test w c r (All-tail (λ v. test v ≡ false) b w all) hit))

-- the bytes from the first that passes a test
pub from_at : (test : ℕ → Bool) (w : List ℕ) (c : ℕ) (r : List ℕ) → All (λ b. test b ≡ false) w → test c ≡ true
    → from test (w ++ c ∷ r) ≡ c ∷ r
unfolding from
from_at test [] c r all hit = rw hit refl
from_at test (b ∷ w) c r all hit =
    rw (All-head (λ v. test v ≡ false) b w all) (from_at test w c r (All-tail (λ v. test v ≡ false) b w all) hit)

-- ---- line ends

-- the line end that is printed is found
pub end_of_print_end : (e : LineEnd) (r : List ℕ) → end_of (print_end e ++ r) ≡ e
end_of_print_end crlf r = refl
end_of_print_end lf r = refl

-- what stands behind a line end
pub behind_end : (e : LineEnd) (r : List ℕ) → drop (end_size e) (print_end e ++ r) ≡ r
behind_end crlf r = refl
behind_end lf r = refl

-- a line end alone is an empty line
pub begins_end : (e : LineEnd) (r : List ℕ) → begins_empty_line (print_end e ++ r) ≡ true
begins_end crlf r = refl
begins_end lf r = refl

-- ---- one field line

-- the parts of a field line
pub print_field_append : (f : Field) (r : List ℕ) → print_field f ++ r ≡ f.name ++ 58
    ∷ (f.raw ++ (print_end f.end ++ r))
print_field_append f r = simp (append_assoc, cons-append)

-- no byte of a token is a byte that is outside the class
none_of : (P : ℕ → Bool) (c : ℕ) (w : List ℕ) → P c ≡ false → AllPass P w → All (λ b. (b == c) ≡ false) w
none_of P c w out all k d l = apart P c _ out (all k d l)

ends_none : (w : List ℕ) → AllPass is_value_byte w → All (λ b. is_line_end b ≡ false) w
ends_none w all k d l =
    or_from _ _ (apart is_value_byte 13 (get_or w k d) refl (all k d l))
    (apart is_value_byte 10 (get_or w k d) refl (all k d l))

before_raw : (raw : List ℕ) (e : LineEnd) (r : List ℕ) → AllPass is_value_byte raw
    → before is_line_end (raw ++ (print_end e ++ r)) ≡ raw
before_raw raw crlf r all = before_at is_line_end raw 13 (10 ∷ r) (ends_none raw all) refl
before_raw raw lf r all = before_at is_line_end raw 10 r (ends_none raw all) refl

from_raw : (raw : List ℕ) (e : LineEnd) (r : List ℕ) → AllPass is_value_byte raw
    → from is_line_end (raw ++ (print_end e ++ r)) ≡ print_end e ++ r
from_raw raw crlf r all = from_at is_line_end raw 13 (10 ∷ r) (ends_none raw all) refl
from_raw raw lf r all = from_at is_line_end raw 10 r (ends_none raw all) refl

-- the field that is printed is found
pub field_of_print_field : (f : Field) (r : List ℕ) → IsField f → field_of (print_field f ++ r) ≡ f
unfolding is_token_byte
field_of_print_field f r h =
    let ending = print_end f.end ++ r in
    let colons = none_of is_token_byte 58 f.name refl h.name.1 in
    rw (
      print_field_append f r,
      before_at (λ b. b == 58) f.name 58 (f.raw ++ ending) colons refl,
      from_at (λ b. b == 58) f.name 58 (f.raw ++ ending) colons refl,
      before_raw f.raw f.end r h.raw,
      from_raw f.raw f.end r h.raw,
      end_of_print_end f.end r,
    ) refl

-- what stands behind a field line
pub behind_field_print : (f : Field) (r : List ℕ) → IsField f → behind_field (print_field f ++ r) ≡ r
unfolding is_token_byte
behind_field_print f r h =
    let ending = print_end f.end ++ r in
    let colons = none_of is_token_byte 58 f.name refl h.name.1 in
    rw (
      print_field_append f r,
      from_at (λ b. b == 58) f.name 58 (f.raw ++ ending) colons refl,
      from_raw f.raw f.end r h.raw,
      end_of_print_end f.end r,
    ) (behind_end f.end r)

-- a token begins no empty line
pub begins_token : (w r : List ℕ) → IsToken w → begins_empty_line (w ++ r) ≡ false
unfolding is_token_byte
begins_token [] r h = absurd (omega (arith, h.0))
begins_token (b ∷ w) r h =
    let first = All-head (λ v. is_token_byte v ≡ true) b w h.1 in
    rw (apart is_token_byte 10 b refl first, apart is_token_byte 13 b refl first) refl

-- a field line is no empty line
pub begins_field : (f : Field) (r : List ℕ) → IsField f → begins_empty_line (print_field f ++ r) ≡ false
begins_field f r h = rw (print_field_append f r) (begins_token f.name _ h.name)

-- ---- sections

-- the fields that are printed are found, and the empty line behind them
pub fields_at : (k : ℕ) (fields : List Field) (last : LineEnd) (r : List ℕ) → All IsField fields → length fields < k
    → (fields_within k (print_section fields last ++ r) ≡ fields)
    × (behind_fields k (print_section fields last ++ r) ≡ print_end last ++ r)
unfolding fields_within behind_fields
fields_at zero fields last r all fits = absurd (omega arith)
fields_at (suc k) [] last r all fits = rw (begins_end last r) (refl, refl)
fields_at (suc k) (f ∷ fields) last r all fits =
    let head = All-head IsField f fields all in
    let rest = print_section fields last ++ r in
    let split : print_section (f ∷ fields) last ++ r ≡ print_field f ++ rest = simp (append_assoc, cons-append) in
    let more = fields_at k fields last r (All-tail IsField f fields all) (omega arith) in
    rw (
      split,
      begins_field f rest head,
      field_of_print_field f rest head,
      behind_field_print f rest head,
      more.0,
      more.1,
    ) (refl, refl)

-- ---- empty lines

-- the empty lines before what begins with none
pub empty_lines_at : (k : ℕ) (ends : List LineEnd) (t : List ℕ) → begins_empty_line t ≡ false → length ends < k
    → empty_lines_within k (print_blank ends ++ t) ≡ ends
unfolding empty_lines_within
empty_lines_at zero ends t starts fits = absurd (omega arith)
empty_lines_at (suc k) [] t starts fits = rw starts refl
empty_lines_at (suc k) (crlf ∷ ends) t starts fits =
    ap (λ (es : List LineEnd). crlf ∷ es) (empty_lines_at k ends t starts (omega arith))
empty_lines_at (suc k) (lf ∷ ends) t starts fits =
    ap (λ (es : List LineEnd). lf ∷ es) (empty_lines_at k ends t starts (omega arith))

-- what stands behind them
pub behind_empty_lines_print_blank : (ends : List LineEnd) (t : List ℕ) → begins_empty_line t ≡ false
    → behind_empty_lines (print_blank ends ++ t) ≡ t
unfolding behind_empty_lines
behind_empty_lines_print_blank [] [] starts = refl
behind_empty_lines_print_blank [] (b ∷ t) starts = rw starts refl
behind_empty_lines_print_blank (crlf ∷ ends) t starts = behind_empty_lines_print_blank ends t starts
behind_empty_lines_print_blank (lf ∷ ends) t starts = behind_empty_lines_print_blank ends t starts

-- a section has more bytes than fields
pub fields_length : (fields : List Field) (last : LineEnd) (r : List ℕ)
    → length fields < length (print_section fields last ++ r)
fields_length [] crlf r = omega arith
fields_length [] lf r = omega arith
fields_length (f ∷ fields) last r =
    let split : print_section (f ∷ fields) last ++ r ≡ f.name ++ 58
    ∷ (f.raw ++ (print_end f.end ++ (print_section fields last ++ r))) = simp (append_assoc, cons-append) in
    rw split (omega (
      arith,
      fields_length fields last r,
      length-append f.name (58 ∷ (f.raw ++ (print_end f.end ++ (print_section fields last ++ r)))),
      length-append f.raw (print_end f.end ++ (print_section fields last ++ r)),
      length-append (print_end f.end) (print_section fields last ++ r),
    ))

-- empty lines have no fewer bytes than lines
pub blank_length : (ends : List LineEnd) (t : List ℕ) → length ends + length t ≤ length (print_blank ends ++ t)
blank_length [] t = omega arith
blank_length (crlf ∷ ends) t = omega (arith, blank_length ends t)
blank_length (lf ∷ ends) t = omega (arith, blank_length ends t)

-- ---- heads

abbrev behind_target : RequestHead → List ℕ
behind_target h = print_version h.minor ++ (print_end h.line_end ++ (print_section h.fields h.last ++ []))

section_guessed : (h : RequestHead) → IsRequestHead h
    → section_guess h.blank h.method h.target h.minor h.line_end (print_section h.fields h.last ++ []) ≡ h
section_guessed h valid =
    let S = print_section h.fields h.last ++ [] in
    let read = fields_at (length S) h.fields h.last [] valid.fields (fields_length h.fields h.last []) in
    rw (read.0, read.1, end_of_print_end h.last []) refl

version_guessed : (h : RequestHead) → IsRequestHead h → version_guess h.blank h.method h.target (behind_target h) ≡ h
version_guessed h valid =
    let S = print_section h.fields h.last ++ [] in
    let minor : (48 + h.minor) - 48 ≡ h.minor = omega arith in
    rw (minor, end_of_print_end h.line_end S, behind_end h.line_end S) (section_guessed h valid)

target_guessed : (h : RequestHead) → IsRequestHead h
    → target_guess h.blank h.method (h.target ++ 32 ∷ behind_target h) ≡ h
target_guessed h valid =
    let words = none_of is_uri_byte 32 h.target refl valid.target.1 in
    rw (
      before_at (λ b. b == 32) h.target 32 (behind_target h) words refl,
      from_at (λ b. b == 32) h.target 32
          (behind_target h) words refl,
    ) (version_guessed h valid)

method_guessed : (h : RequestHead) → IsRequestHead h
    → method_guess h.blank (h.method ++ 32 ∷ (h.target ++ 32 ∷ behind_target h)) ≡ h
unfolding is_token_byte
method_guessed h valid =
    let words = none_of is_token_byte 32 h.method refl valid.method.1 in
    let behind = h.target ++ 32 ∷ behind_target h in
    rw (before_at (λ b. b == 32) h.method 32 behind words refl, from_at (λ b. b == 32) h.method 32 behind words refl)
    (target_guessed h valid)

head_guessed : (h : RequestHead) → IsRequestHead h → head_guess (print_request h) ≡ h
head_guessed h valid =
    let behind = h.method ++ 32 ∷ (h.target ++ 32 ∷ behind_target h) in
    let printed : print_request h ≡ print_blank h.blank ++ behind =
    sym (append-nil (print_request h)) ∙ print_request-append h [] in
    let n = length (print_blank h.blank ++ behind) in
    let fits : length h.blank < n =
    omega (
      arith,
      blank_length h.blank behind,
      length-append h.method
          (32 ∷ (h.target ++ 32 ∷ behind_target h)),
      valid.method.0,
    ) in
    let starts = begins_token h.method (32 ∷ (h.target ++ 32 ∷ behind_target h)) valid.method in
    rw (printed, empty_lines_at n h.blank behind starts fits, behind_empty_lines_print_blank h.blank behind starts)
    (method_guessed h valid)

-- ---- the check

text_from_test : (bytes : List ℕ) → is_text bytes ≡ true → IsUtf8 bytes
text_from_test bytes e = by (list_all (λ b. nat_lt b 128) bytes) refl e
  where
    ascii : (bs : List ℕ) → list_all (λ b. nat_lt b 128) bs ≡ true → (i : ℕ) → slice_index bs i < 128
    ascii [] h i = omega arith
    ascii (b ∷ bs) h zero = ltb-true _ _ (and_parts _ _ h).0
    ascii (b ∷ bs) h (suc i) = ascii bs (and_parts _ _ h).1 i

    by : (t : Bool) → list_all (λ b. nat_lt b 128) bytes ≡ t → (t || is_utf8 bytes) ≡ true → IsUtf8 bytes
    by true all h = IsUtf8-from_ascii bytes (ascii bytes all)
    by false all h = IsUtf8-from_is_utf8 bytes h

test_from_text : (bytes : List ℕ) → IsUtf8 bytes → is_text bytes ≡ true
test_from_text bytes u = rw (is_utf8-from_IsUtf8 bytes u) (or_true _)
  where
    or_true : (t : Bool) → (t || true) ≡ true
    or_true true = refl
    or_true false = refl

token_from_test : (w : List ℕ) → is_token w ≡ true → IsToken w
token_from_test w e =
    let parts = and_parts _ _ e in (ltb-true _ _ parts.0, AllPass-from_list_all is_token_byte w parts.1)

test_from_token : (w : List ℕ) → IsToken w → is_token w ≡ true
test_from_token w t = and_from _ _ (lt-ltb _ _ t.0) (list_all-from_AllPass is_token_byte w t.1)

-- a field by its test
pub field_from_test : (f : Field) → is_field f ≡ true → IsField f
field_from_test f e =
    let parts = and_parts _ _ e in
    record { name = token_from_test f.name parts.0; raw = AllPass-from_list_all is_value_byte f.raw parts.1 }

-- the test of a field
pub test_from_field : (f : Field) → IsField f → is_field f ≡ true
test_from_field f h = and_from _ _ (test_from_token f.name h.name) (list_all-from_AllPass is_value_byte f.raw h.raw)

head_from_test : (h : RequestHead) → is_request_head h ≡ true → IsRequestHead h
head_from_test h e =
    let a = and_parts _ _ e in
    let b = and_parts _ _ a.1 in
    let c = and_parts _ _ b.1 in
    let d = and_parts _ _ c.1 in
    let f = and_parts _ _ d.1 in
    record {
      method = token_from_test h.method a.0;
      target = (ltb-true _ _ b.0, AllPass-from_list_all is_uri_byte h.target c.0);
      target_text = text_from_test h.target d.0;
      minor = leb-true _ _ f.0;
      fields = λ k x l. field_from_test _ (AllPass-from_list_all is_field h.fields f.1 k x l);
    }

test_from_head : (h : RequestHead) → IsRequestHead h → is_request_head h ≡ true
test_from_head h v =
    and_from _ _ (test_from_token h.method v.method)
    (and_from _ _ (lt-ltb _ _ v.target.0) (and_from _ _ (list_all-from_AllPass is_uri_byte h.target v.target.1)
    (and_from _ _ (test_from_text h.target v.target_text)
    (and_from _ _ (le-leb _ _ v.minor)
    (list_all-from_AllPass is_field h.fields (λ k x l. test_from_field _ (v.fields k x l)))))))

-- a head of the grammar is found
pub head_read : (bytes : List ℕ) (h : RequestHead) → ReadsRequest bytes h [] → head_in bytes ≡ Some h
unfolding head_in
head_read bytes h x =
    let printed : bytes ≡ print_request h = x.1 ∙ append-nil (print_request h) in
    ap (checked_head bytes) (ap head_guess printed ∙ head_guessed h x.0)
    ∙ ap (λ (t : Bool). if t then Some h else None)
    (and_from _ _ (test_from_head h x.0) ((bytes_eq-Decides (print_request h) bytes).1 (sym printed)))

some_same : (g h : RequestHead) → ◌≡◌ {A = Option RequestHead} (Some g) (Some h) → g ≡ h
some_same g h e = cc

-- a head that is found is one of the grammar
pub head_reads : (bytes : List ℕ) (h : RequestHead) → head_in bytes ≡ Some h → ReadsRequest bytes h []
unfolding head_in
head_reads bytes h e =
    by (is_request_head (head_guess bytes) && bytes_eq (print_request (head_guess bytes)) bytes) refl e
  where
    by : (t : Bool) → (is_request_head (head_guess bytes) && bytes_eq (print_request (head_guess bytes)) bytes) ≡ t
        → (if t then Some (head_guess bytes) else None) ≡ Some h → ReadsRequest bytes h []
    by true both x =
        let parts = and_parts _ _ both in
        let same : head_guess bytes ≡ h = some_same _ _ x in
        subst (λ (g : RequestHead). ReadsRequest bytes g []) same (
          head_from_test (head_guess bytes) parts.0,
          sym
              ((bytes_eq-Decides (print_request (head_guess bytes)) bytes).0 parts.1)
              ∙ sym (append-nil (print_request (head_guess bytes))),
        )
    by false both x = absurd (cc)
