-- The line feeds of heads and sections, and how many fields they have: `laws::field_lines_are_counted`.
use Rattle.std.proofs.Common.{◌≡◌, ℕ, ◌+◌, Bool, true, false, All, List, [], ◌∷◌, ◌++◌, length, cond, refl, sym, ap, ◌∙◌, arith, append_assoc, append-nil, ne_eqb}
use Rattle.std.proofs.lemmas.List.Elements.{All-head, All-tail}
use Rattle.httparse.proofs.GrammarLemmas.{cons-append, print_request-append}
use Rattle.httparse.specs.Grammar.{is_token_byte, is_value_byte, is_uri_byte, AllPass, LineEnd, crlf, lf, print_end, print_blank, print_version, Field, IsField, print_field, print_section, RequestHead, IsRequestHead, print_request}
use Rattle.http1_requests.specs.HeadEnd.{line_feeds, head_lines}
use Rattle.http1_requests.proofs.Theorems.{line_feeds-append, line_feeds_other}
use Rattle.http1_requests.proofs.GrammarLaw.{apart, begins_token, behind_empty_lines_print_blank}

-- bytes of a class without it have none
pub no_line_feeds : (P : ℕ → Bool) (w : List ℕ) → P 10 ≡ false → AllPass P w → line_feeds w ≡ 0
no_line_feeds P [] out all = refl
no_line_feeds P (b ∷ w) out all =
    line_feeds_other b w (apart P 10 b out (All-head (λ v. P v ≡ true) b w all))
    ∙ no_line_feeds P w out (All-tail (λ v. P v ≡ true) b w all)

-- a line end has one
pub line_feeds_print_end : (e : LineEnd) → line_feeds (print_end e) ≡ 1
line_feeds_print_end crlf = refl
line_feeds_print_end lf = refl

-- a field line has one
line_feeds_print_field : (f : Field) → IsField f → line_feeds (print_field f) ≡ 1
unfolding is_token_byte
line_feeds_print_field f h =
    let split : print_field f ≡ f.name ++ (58 ∷ (f.raw ++ print_end f.end)) = simp (append_assoc, cons-append) in
    let value = f.raw ++ print_end f.end in
    ap line_feeds split
    ∙ omega (
      arith,
      line_feeds-append f.name (58 ∷ value),
      no_line_feeds is_token_byte f.name refl h.name.1,
      line_feeds_other 58 value refl,
      line_feeds-append f.raw (print_end f.end),
      no_line_feeds is_value_byte f.raw refl h.raw,
      line_feeds_print_end f.end,
    )

-- a section has one for each field, and one for the empty line
pub line_feeds_print_section : (fields : List Field) (last : LineEnd) → All IsField fields
    → line_feeds (print_section fields last) ≡ length fields + 1
line_feeds_print_section [] last all = line_feeds_print_end last
line_feeds_print_section (f ∷ fields) last all =
    let split : print_section (f ∷ fields) last ≡ print_field f ++ print_section fields last = simp (append_assoc) in
    ap line_feeds split
    ∙ omega (
      arith,
      line_feeds-append (print_field f) (print_section fields last),
      line_feeds_print_field f (All-head IsField f fields all),
      line_feeds_print_section fields last (All-tail IsField f fields all),
    )

-- the version has none
pub line_feeds_print_version : (minor : ℕ) → line_feeds (print_version minor) ≡ 0
line_feeds_print_version minor =
    ap (λ (t : Bool). 0 + cond t 1 0) (ne_eqb (48 + minor) 10 (λ e. omega (arith, e)))

-- a head has one for each field, one for the request line and one for the empty line
pub head_lines_print_request : (h : RequestHead) → IsRequestHead h → head_lines (print_request h) ≡ length h.fields + 2
unfolding is_token_byte
head_lines_print_request h valid =
    let section = print_section h.fields h.last ++ [] in
    let behind_version = print_end h.line_end ++ section in
    let behind_target = print_version h.minor ++ behind_version in
    let behind_method = h.target ++ 32 ∷ behind_target in
    let line = h.method ++ 32 ∷ behind_method in
    let printed : print_request h ≡ print_blank h.blank ++ line =
    sym (append-nil (print_request h)) ∙ print_request-append h [] in
    let starts = begins_token h.method (32 ∷ behind_method) valid.method in
    ap head_lines printed ∙ ap line_feeds (behind_empty_lines_print_blank h.blank line starts)
    ∙ omega (
      arith,
      line_feeds-append h.method (32 ∷ behind_method),
      no_line_feeds is_token_byte h.method refl valid.method.1,
      line_feeds_other 32 behind_method refl,
      line_feeds-append h.target (32 ∷ behind_target),
      no_line_feeds is_uri_byte h.target refl valid.target.1,
      line_feeds_other 32 behind_target refl,
      line_feeds-append (print_version h.minor) behind_version,
      line_feeds_print_version h.minor,
      line_feeds-append (print_end h.line_end) section,
      line_feeds_print_end h.line_end,
      ap line_feeds (append-nil (print_section h.fields h.last)),
      line_feeds_print_section h.fields h.last valid.fields,
    )
