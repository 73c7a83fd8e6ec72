-- What is told of a head that is served is within bounds: `laws::served_heads_are_read`.
use Rattle.std.proofs.Common.{◌≡◌, ◌≤◌, ◌<◌, ◌^◌, ℕ, Bool, true, false, ◌&&◌, List, [], ◌∷◌, ◌++◌, length, map, refl, sym, ap, ◌∙◌, subst, arith, append_assoc, append-nil, length-append, nat_lt, nat_le, lit<, codes, Option, Some, None, if◌then◌else◌}
use Rattle.std.specs.Prelude.{reverse}
use Rattle.std.specs.List.{flat_map, list_all}
use Rattle.std.specs.Char.{is_ascii_digit}
use Rattle.std.specs.Str.Parse.{AllDigits, digits_value}
use Rattle.std.proofs.Math.Nat.{pow-le-pow_right}
use Rattle.std.proofs.lemmas.List.{length-map, length-reverse}
use Rattle.std.proofs.lemmas.Bool.{and_parts, leb-true}
use Rattle.std.proofs.lemmas.Int.Digits.{digits_value-lt}
use Rattle.std.proofs.lemmas.Str.{digit_value_digit}
use Rattle.httparse.proofs.GrammarLemmas.{cons-append, print_request-append}
use Rattle.httparse.specs.Grammar.{is_ows, skip_ows, trim_ows, LineEnd, print_end, print_blank, print_version, Field, field_value, print_section, RequestHead, print_request}
use Rattle.http1.specs.Fields.{values_named}
use Rattle.http1.specs.Text.{eq_ignore_case}
use Rattle.gate_world.specs.MessageHead.{MessageHead}
use Rattle.gate_world.specs.declared.body_length.BodyLength.{BodyLength}
use Rattle.gate_world.specs.declared.body_length.BodyLength.TheVariants.{Nothing, Length, Chunked}
use Rattle.http1_requests.specs.HeadJudgement.{header_of, headers_of, is_length, length_by, message_head}
use Rattle.http1_requests.specs.HeadCauses.{IsServed, told_bytes, IsBodyLength, ServedBounds}

-- a text without its leading blanks is no longer
skip_ows_short : (w : List ℕ) → length (skip_ows w) ≤ length w
skip_ows_short [] = omega arith
skip_ows_short (b ∷ w) = by (is_ows b) (skip_ows_short w)
  where
    by : (t : Bool) → length (skip_ows w) ≤ length w → length (if t then skip_ows w else b ∷ w) ≤ length (b ∷ w)
    by true h = omega (arith, h)
    by false h = omega arith

-- a text without the blanks around it is no longer
trim_ows_short : (w : List ℕ) → length (trim_ows w) ≤ length w
unfolding trim_ows
trim_ows_short w =
    let front = skip_ows w in
    let back = skip_ows (reverse front) in
    omega (
      arith,
      length-reverse back,
      skip_ows_short (reverse front),
      length-reverse front,
      skip_ows_short w,
    )

-- names and values are no longer than their lines
told_fields : (fields : List Field) (last : LineEnd) (r : List ℕ)
    → length (flat_map (λ f. f.0 ++ f.1) (map header_of fields)) ≤ length (print_section fields last ++ r)
told_fields [] last r = omega arith
told_fields (f ∷ fields) last r =
    let rest = print_section fields last ++ r in
    let told = flat_map (λ f. f.0 ++ f.1) (map header_of fields) in
    let split : print_section (f ∷ fields) last ++ r ≡ f.name ++ 58 ∷ (f.raw ++ (print_end f.end ++ rest)) =
    simp (append_assoc, cons-append) in
    rw split (omega (
      arith,
      told_fields fields last r,
      length-append (f.name ++ field_value f) told,
      length-append f.name (field_value f),
      trim_ows_short f.raw,
      length-append f.name (58 ∷ (f.raw ++ (print_end f.end ++ rest))),
      length-append f.raw (print_end f.end ++ rest),
      length-append (print_end f.end) rest,
    ))

-- all that is told of a head is shorter than its bytes
told_short : (h : RequestHead) (body : BodyLength)
    → length (told_bytes (message_head h body)) < length (print_request h)
told_short h body =
    let section = print_section h.fields h.last ++ [] in
    let behind_version = print_end h.line_end ++ section in
    let behind_target = print_version h.minor ++ behind_version in
    let behind_method = h.target ++ 32 ∷ behind_target in
    let line = h.method ++ 32 ∷ behind_method in
    let told = flat_map (λ f. f.0 ++ f.1) (headers_of h) in
    let printed : print_request h ≡ print_blank h.blank ++ line =
    sym (append-nil (print_request h)) ∙ print_request-append h [] in
    rw printed (omega (
      arith,
      told_fields h.fields h.last [],
      length-append h.method (h.target ++ told),
      length-append h.target told,
      length-append (print_blank h.blank) line,
      length-append h.method (32 ∷ behind_method),
      length-append h.target (32 ∷ behind_target),
      length-append (print_version h.minor) behind_version,
      length-append (print_end h.line_end) section,
    ))

-- bytes that are digits, by their test
digits_from_test : (ds : List ℕ) → list_all is_ascii_digit ds ≡ true → AllDigits 10 ds
digits_from_test [] h = tt
digits_from_test (c ∷ cs) h =
    let parts = and_parts (is_ascii_digit c) (list_all is_ascii_digit cs) h in
    let range = and_parts (nat_le 48 c) (nat_le c 57) parts.0 in
    let low = leb-true 48 c range.0 in
    let high = leb-true c 57 range.1 in
    (omega (arith, digit_value_digit c (low, high), low, high), digits_from_test cs parts.1)

-- 18 digits are below 10 ^ 18
small_length : (n : List ℕ) → is_length n ≡ true → digits_value 10 n < 10 ^ 18
small_length n h =
    let parts = and_parts (list_all is_ascii_digit n) (nat_lt 0 (length n) && nat_le (length n) 18) h in
    let count = and_parts (nat_lt 0 (length n)) (nat_le (length n) 18) parts.1 in
    let few : length n ≤ 18 = leb-true (length n) 18 count.1 in
    let below : digits_value 10 n < 10 ^ length n = digits_value-lt 10 n (digits_from_test n parts.0) in
    let most : 10 ^ length n ≤ 10 ^ 18 = pow-le-pow_right {n = 10} (lit< tt) few in
    omega (arith, below, most)

-- a body that is told is that one
pub some_length : (a b : BodyLength) → ◌≡◌ {A = Option BodyLength} (Some a) (Some b) → a ≡ b
some_length a b e = cc

-- a length of a body is below 10 ^ 18
length_by_small : (ns cs : List (List ℕ)) (body : BodyLength) → length_by ns cs ≡ Some body → IsBodyLength body
length_by_small [] [] body e = subst IsBodyLength (some_length Nothing body e) tt
length_by_small [] (c ∷ []) body e = by (eq_ignore_case c (codes "chunked")) e
  where
    by : (t : Bool) → (if t then Some Chunked else None) ≡ Some body → IsBodyLength body
    by true x = subst IsBodyLength (some_length Chunked body x) tt
    by false x = absurd (cc)
length_by_small [] (c ∷ d ∷ cs) body e = absurd (cc)
length_by_small (n ∷ []) [] body e = by (is_length n) refl e
  where
    by : (t : Bool) → is_length n ≡ t → (if t then Some (Length (digits_value 10 n)) else None) ≡ Some body
        → IsBodyLength body
    by true h x = subst IsBodyLength (some_length (Length (digits_value 10 n)) body x) (small_length n h)
    by false h x = absurd (cc)
length_by_small (n ∷ []) (c ∷ cs) body e = absurd (cc)
length_by_small (n ∷ m ∷ ns) [] body e = absurd (cc)
length_by_small (n ∷ m ∷ ns) (c ∷ cs) body e = absurd (cc)

-- what holds of a head that is served
pub served_bounds : (bytes : List ℕ) (head : MessageHead) → IsServed bytes head → ServedBounds bytes head
served_bounds bytes head c =
    let h = c.0 in
    let read = c.1.0.0.0 in
    let valid = read.0.0 in
    let size : length bytes ≡ length (print_request h) =
    ap (λ (x : List ℕ). length x) (read.0.1 ∙ append-nil (print_request h)) in
    subst (ServedBounds bytes) (sym c.4) (record {
      method = valid.method;
      served_method = c.1.0.1;
      target = valid.target.0;
      fields = omega (arith, length-map h.fields header_of, read.1);
      hosts = c.1.1;
      told = omega (arith, size, told_short h c.2);
      body = c.3;
      size = length_by_small (values_named (codes "content-length") (headers_of h))
          (values_named (codes "transfer-encoding") (headers_of h)) c.2 c.3;
    })
