-- Where the heads, sections and chunk size lines of the grammar end: `laws::parts_end_where_the_grammar_ends`.
use Rattle.std.proofs.Common.{◌≡◌, ℕ, suc, ◌+◌, Bool, true, false, ◌==◌, All, List, [], ◌∷◌, ◌++◌, length, cond, refl, sym, ap, ◌∙◌, arith, append_assoc, append-nil, length-append, Option, Some, None, option_map}
use Rattle.std.specs.Char.{is_ascii_hexdigit}
use Rattle.std.proofs.lemmas.List.Elements.{All-head, All-tail}
use Rattle.httparse.proofs.GrammarLemmas.{cons-append, print_request-append}
use Rattle.httparse.specs.Grammar.{is_token_byte, is_value_byte, is_uri_byte, is_ows, is_extension_byte, IsExtension, LineEnd, crlf, lf, print_end, print_blank, print_version, Field, IsField, print_field, print_section, RequestHead, IsRequestHead, print_request, print_extension, ChunkLine, IsChunkLine, print_chunk_line}
use Rattle.http1_requests.specs.HeadEnd.{begins_empty_line, line_size, size_to_empty_line, section_size, head_size, line_feeds}
use Rattle.http1_requests.proofs.Theorems.{line_feeds-append, line_feeds-cons, line_feeds_other}
use Rattle.http1_requests.proofs.GrammarLaw.{begins_field, begins_token}
use Rattle.http1_requests.proofs.LineLemmas.{no_line_feeds, line_feeds_print_version}

-- a byte that is no line feed is skipped
abbrev Skips : (List ℕ → Option ℕ) → Type 0
Skips size = (b : ℕ) (t : List ℕ) → (b == 10) ≡ false → size (b ∷ t) ≡ option_map suc (size t)

line_skips : Skips line_size
unfolding line_size
line_skips b t e = rw e refl

in_line_skips : Skips size_to_empty_line
unfolding size_to_empty_line
in_line_skips b t e = rw e refl

no_feed_first : (b : ℕ) (w : List ℕ) → line_feeds (b ∷ w) ≡ 0 → ((b == 10) ≡ false) × (line_feeds w ≡ 0)
no_feed_first b w e = by (b == 10) refl (sym (line_feeds-cons b w) ∙ e)
  where
    by : (t : Bool) → (b == 10) ≡ t → cond t 1 0 + line_feeds w ≡ 0 → ((b == 10) ≡ false) × (line_feeds w ≡ 0)
    by true is e = absurd (omega (arith, e))
    by false is e = (is, omega (arith, e))

-- bytes without a line feed are skipped
skip : (size : List ℕ → Option ℕ) → Skips size → (w t : List ℕ) (n : ℕ) → line_feeds w ≡ 0 → size t ≡ Some n
    → size (w ++ t) ≡ Some (length w + n)
skip size s [] t n none e = e ∙ ap (λ (k : ℕ). Some k) (omega arith)
skip size s (b ∷ w) t n none e =
    let first = no_feed_first b w none in
    s b (w ++ t) first.0 ∙ ap (option_map suc) (skip size s w t n first.1 e) ∙ ap (λ (k : ℕ). Some k) (omega arith)

-- a line end before what a line feed stands before
end_at : (e : LineEnd) (t : List ℕ) (k : ℕ) → size_to_empty_line (10 ∷ t) ≡ Some (suc k)
    → size_to_empty_line (print_end e ++ t) ≡ Some (length (print_end e) + k)
end_at crlf t k h =
    in_line_skips 13 (10 ∷ t) refl ∙ ap (option_map suc) h ∙ ap (λ (n : ℕ). Some n) (omega arith)
end_at lf t k h = h ∙ ap (λ (n : ℕ). Some n) (omega arith)

-- a line feed before what is no empty line
feed_goes_on : (t : List ℕ) → begins_empty_line t ≡ false
    → size_to_empty_line (10 ∷ t) ≡ option_map suc (size_to_empty_line t)
unfolding size_to_empty_line
feed_goes_on t e = rw e refl

-- a field line
field_at : (f : Field) (t : List ℕ) (k : ℕ) → IsField f → size_to_empty_line (10 ∷ t) ≡ Some (suc k)
    → size_to_empty_line (print_field f ++ t) ≡ Some (length (print_field f) + k)
unfolding is_token_byte
field_at f t k valid h =
    let words = f.name ++ 58 ∷ f.raw in
    let split : print_field f ++ t ≡ words ++ (print_end f.end ++ t) = simp (append_assoc, cons-append) in
    let whole : print_field f ≡ words ++ print_end f.end = simp (append_assoc, cons-append) in
    let none : line_feeds words ≡ 0 =
    omega (
      arith,
      line_feeds-append f.name (58 ∷ f.raw),
      no_line_feeds is_token_byte f.name refl valid.name.1,
      line_feeds_other 58 f.raw refl,
      no_line_feeds is_value_byte f.raw refl valid.raw,
    ) in
    ap size_to_empty_line split
    ∙ skip size_to_empty_line in_line_skips words (print_end f.end ++ t) (length (print_end f.end) + k) none
    (end_at f.end t k h)
    ∙ ap (λ (n : ℕ). Some n)
    (omega (arith, ap (λ (w : List ℕ). length w) whole, length-append words (print_end f.end)))

-- a section behind a line feed
section_at : (fields : List Field) (last : LineEnd) (more : List ℕ) → All IsField fields
    → size_to_empty_line (10 ∷ (print_section fields last ++ more)) ≡ Some (suc (length (print_section fields last)))
unfolding size_to_empty_line
section_at [] crlf more all = refl
section_at [] lf more all = refl
section_at (f ∷ fields) last more all =
    let rest = print_section fields last ++ more in
    let head = All-head IsField f fields all in
    let split : print_section (f ∷ fields) last ++ more ≡ print_field f ++ rest = simp (append_assoc, cons-append) in
    let whole : print_section (f ∷ fields) last ≡ print_field f ++ print_section fields last = simp (append_assoc) in
    ap (λ (w : List ℕ). size_to_empty_line (10 ∷ w)) split
    ∙ feed_goes_on (print_field f ++ rest) (begins_field f rest head)
    ∙ ap (option_map suc)
    (field_at f rest (length (print_section fields last)) head
    (section_at fields last more (All-tail IsField f fields all)))
    ∙ ap (λ (n : ℕ). Some n)
    (omega (
      arith,
      ap (λ (w : List ℕ). length w) whole,
      length-append (print_field f) (print_section fields last),
    ))

section_goes_on : (t : List ℕ) → begins_empty_line t ≡ false → section_size t ≡ size_to_empty_line t
section_goes_on t e = rw e refl

-- a section of the grammar ends with its empty line
pub section_ends : (fields : List Field) (last : LineEnd) (more : List ℕ) → All IsField fields
    → section_size (print_section fields last ++ more) ≡ Some (length (print_section fields last))
section_ends [] crlf more all = refl
section_ends [] lf more all = refl
section_ends (f ∷ fields) last more all =
    let rest = print_section fields last ++ more in
    let head = All-head IsField f fields all in
    let split : print_section (f ∷ fields) last ++ more ≡ print_field f ++ rest = simp (append_assoc, cons-append) in
    let whole : print_section (f ∷ fields) last ≡ print_field f ++ print_section fields last = simp (append_assoc) in
    ap section_size split ∙ section_goes_on (print_field f ++ rest) (begins_field f rest head)
    ∙ field_at f rest (length (print_section fields last)) head
    (section_at fields last more (All-tail IsField f fields all))
    ∙ ap (λ (n : ℕ). Some n)
    (omega (
      arith,
      ap (λ (w : List ℕ). length w) whole,
      length-append (print_field f) (print_section fields last),
    ))

-- ---- chunk size lines

extension_feeds : (e : Option (List ℕ)) → IsExtension e → line_feeds (print_extension e) ≡ 0
extension_feeds None h = refl
extension_feeds (Some text) h = line_feeds_other 59 text refl ∙ no_line_feeds is_extension_byte text refl h

-- a chunk size line of the grammar ends with its line feed
pub line_ends : (l : ChunkLine) (more : List ℕ) → IsChunkLine l
    → line_size (print_chunk_line l ++ more) ≡ Some (length (print_chunk_line l))
unfolding print_chunk_line line_size
line_ends l more valid =
    let text = print_extension l.extension in
    let words = l.digits ++ (l.pad ++ (text ++ 13 ∷ [])) in
    let split : print_chunk_line l ++ more ≡ words ++ 10 ∷ more = simp (append_assoc, cons-append) in
    let whole : print_chunk_line l ≡ words ++ 10 ∷ [] = simp (append_assoc, cons-append) in
    let none : line_feeds words ≡ 0 =
    omega (
      arith,
      line_feeds-append l.digits (l.pad ++ (text ++ 13 ∷ [])),
      no_line_feeds is_ascii_hexdigit l.digits refl valid.digits.2,
      line_feeds-append l.pad (text ++ 13 ∷ []),
      no_line_feeds is_ows l.pad refl valid.pad,
      line_feeds-append text (13 ∷ []),
      line_feeds_other 13 [] refl,
      extension_feeds l.extension valid.extension,
    ) in
    ap line_size split ∙ skip line_size line_skips words (10 ∷ more) 1 none refl
    ∙ ap (λ (n : ℕ). Some n) (omega (arith, ap (λ (w : List ℕ). length w) whole, length-append words (10 ∷ [])))

-- ---- heads

-- empty lines before a head count
blank_at : (ends : List LineEnd) (t : List ℕ) (n : ℕ) → head_size t ≡ Some n
    → head_size (print_blank ends ++ t) ≡ Some (length (print_blank ends) + n)
unfolding head_size
blank_at [] t n e = e ∙ ap (λ (k : ℕ). Some k) (omega arith)
blank_at (crlf ∷ ends) t n e =
    ap (λ (x : Option ℕ). option_map suc (option_map suc x)) (blank_at ends t n e)
    ∙ ap (λ (k : ℕ). Some k) (omega arith)
blank_at (lf ∷ ends) t n e = ap (option_map suc) (blank_at ends t n e) ∙ ap (λ (k : ℕ). Some k) (omega arith)

head_goes_on : (t : List ℕ) → begins_empty_line t ≡ false → head_size t ≡ size_to_empty_line t
unfolding head_size size_to_empty_line
head_goes_on [] e = refl
head_goes_on (b ∷ t) e = rw e refl

-- the request line without its end
abbrev start_line : RequestHead → List ℕ
start_line h = h.method ++ 32 ∷ (h.target ++ 32 ∷ print_version h.minor)

head_printed : (h : RequestHead) (more : List ℕ) → print_request h ++ more
    ≡ print_blank h.blank ++ (start_line h ++ (print_end h.line_end ++ (print_section h.fields h.last ++ more)))
head_printed h more =
    print_request-append h more
    ∙ ap (λ (w : List ℕ). print_blank h.blank ++ w)
    (regroup h.method h.target (print_version h.minor)
    (print_end h.line_end ++ (print_section h.fields h.last ++ more)))
  where
    regroup : (a b c r : List ℕ) → a ++ 32 ∷ (b ++ 32 ∷ (c ++ r)) ≡ (a ++ 32 ∷ (b ++ 32 ∷ c)) ++ r
    regroup a b c r = simp (append_assoc, cons-append)

start_feeds : (h : RequestHead) → IsRequestHead h → line_feeds (start_line h) ≡ 0
unfolding is_token_byte
start_feeds h valid =
    omega (
      arith,
      line_feeds-append h.method (32 ∷ (h.target ++ 32 ∷ print_version h.minor)),
      no_line_feeds is_token_byte h.method refl valid.method.1,
      line_feeds_other 32 (h.target ++ 32 ∷ print_version h.minor) refl,
      line_feeds-append h.target (32 ∷ print_version h.minor),
      no_line_feeds is_uri_byte h.target refl valid.target.1,
      line_feeds_other 32 (print_version h.minor) refl,
      line_feeds_print_version h.minor,
    )

-- a head of the grammar ends with its empty line
pub head_ends : (h : RequestHead) (more : List ℕ) → IsRequestHead h
    → head_size (print_request h ++ more) ≡ Some (length (print_request h))
head_ends h more valid =
    let section = print_section h.fields h.last in
    let behind = print_end h.line_end ++ (section ++ more) in
    let n = length (print_end h.line_end) + length section in
    let begins : begins_empty_line (start_line h ++ behind) ≡ false =
    ap begins_empty_line (append_assoc h.method (32 ∷ (h.target ++ 32 ∷ print_version h.minor)) behind)
    ∙ begins_token h.method ((32 ∷ (h.target ++ 32 ∷ print_version h.minor)) ++ behind) valid.method in
    let size : head_size (start_line h ++ behind) ≡ Some (length (start_line h) + n) =
    head_goes_on (start_line h ++ behind) begins
    ∙ skip size_to_empty_line in_line_skips (start_line h) behind n (start_feeds h valid)
    (end_at h.line_end (section ++ more) (length section) (section_at h.fields h.last more valid.fields)) in
    ap head_size (head_printed h more) ∙ blank_at h.blank (start_line h ++ behind) (length (start_line h) + n) size
    ∙ ap (λ (k : ℕ). Some k)
    (omega (
      arith,
      ap (λ (w : List ℕ). length w) (sym (append-nil (print_request h)) ∙ head_printed h []),
      length-append (print_blank h.blank) (start_line h ++ (print_end h.line_end ++ (section ++ []))),
      length-append (start_line h) (print_end h.line_end ++ (section ++ [])),
      length-append (print_end h.line_end) (section ++ []),
      length-append section [],
    ))
