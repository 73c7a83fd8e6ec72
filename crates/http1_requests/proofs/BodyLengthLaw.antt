-- The fields of a head tell of one body, or of none: `laws::body_lengths_are_told`.
use Rattle.std.proofs.Common.{◌≡◌, ℕ, Bool, true, false, ◌&&◌, List, [], ◌∷◌, length, refl, sym, ap, ◌∙◌, subst, codes, nat_lt, nat_le, Option, Some, None, if◌then◌else◌}
use Rattle.std.specs.List.{list_all}
use Rattle.std.specs.Char.{is_ascii_digit}
use Rattle.std.specs.Str.Parse.{digits_value}
use Rattle.std.proofs.lemmas.List.Sums.{AllPass-from_list_all, list_all-from_AllPass}
use Rattle.std.proofs.lemmas.Bool.{and_from, and_parts, ltb-true, leb-true, lt-ltb, le-leb}
use Rattle.http1.specs.Text.{eq_ignore_case}
use Rattle.http1.specs.Fields.{Header, values_named}
use Rattle.gate_world.specs.declared.body_length.BodyLength.{BodyLength}
use Rattle.gate_world.specs.declared.body_length.BodyLength.TheVariants.{Nothing, Length, Chunked}
use Rattle.http1_requests.specs.HeadJudgement.{is_length, length_by, body_length}
use Rattle.http1_requests.specs.BodyLengths.{IsLengthText, IsToldBy, TellsBody}
use Rattle.http1_requests.proofs.BoundLemmas.{some_length}

length_text : (n : List ℕ) → is_length n ≡ true → IsLengthText n
length_text n h =
    let parts = and_parts (list_all is_ascii_digit n) (nat_lt 0 (length n) && nat_le (length n) 18) h in
    let count = and_parts (nat_lt 0 (length n)) (nat_le (length n) 18) parts.1 in
    record {
      digits = AllPass-from_list_all is_ascii_digit n parts.0;
      some = ltb-true _ _ count.0;
      few = leb-true _ _ count.1;
    }

length_test : (n : List ℕ) → IsLengthText n → is_length n ≡ true
length_test n t =
    and_from _ _ (list_all-from_AllPass is_ascii_digit n t.digits)
    (and_from _ _ (lt-ltb _ _ t.some) (le-leb _ _ t.few))

-- what is read of the values is what they tell of
pub told_by : (ns cs : List (List ℕ)) (body : BodyLength) → length_by ns cs ≡ Some body → IsToldBy ns cs body
told_by [] [] body e = subst (IsToldBy [] []) (some_length Nothing body e) (refl, refl)
told_by [] (c ∷ []) body e = by (eq_ignore_case c (codes "chunked")) refl e
  where
    by : (t : Bool) → eq_ignore_case c (codes "chunked") ≡ t → (if t then Some Chunked else None) ≡ Some body
        → IsToldBy [] (c ∷ []) body
    by true h x = subst (IsToldBy [] (c ∷ [])) (some_length Chunked body x) (c, refl, refl, h)
    by false h x = absurd (cc)
told_by [] (c ∷ d ∷ cs) body e = absurd (cc)
told_by (n ∷ []) [] body e = by (is_length n) refl e
  where
    by : (t : Bool) → is_length n ≡ t → (if t then Some (Length (digits_value 10 n)) else None) ≡ Some body
        → IsToldBy (n ∷ []) [] body
    by true h x =
        subst (IsToldBy (n ∷ []) []) (some_length (Length (digits_value 10 n)) body x)
        (n, refl, refl, length_text n h, refl)
    by false h x = absurd (cc)
told_by (n ∷ []) (c ∷ cs) body e = absurd (cc)
told_by (n ∷ m ∷ ns) [] body e = absurd (cc)
told_by (n ∷ m ∷ ns) (c ∷ cs) body e = absurd (cc)

-- and the other way round
pub read_by : (ns cs : List (List ℕ)) (body : BodyLength) → IsToldBy ns cs body → length_by ns cs ≡ Some body
read_by ns cs Nothing x = rw (x.0, x.1) refl
read_by ns cs (Length size) x =
    rw (x.1, x.2, length_test x.0 x.3) (ap (λ (n : ℕ). Some (Length n)) (sym x.4))
read_by ns cs Chunked x = rw (x.1, x.2, x.3) refl

-- one body at most is told of
pub one_body : (fields : List Header) (a b : BodyLength) → TellsBody fields a → TellsBody fields b → a ≡ b
one_body fields a b x y =
    let ns = values_named (codes "content-length") fields in
    let cs = values_named (codes "transfer-encoding") fields in
    some_length a b (sym (read_by ns cs a x) ∙ read_by ns cs b y)

-- none is told of exactly where none is read
pub no_body : (fields : List Header) → body_length fields ≡ None → (body : BodyLength) → ¬ (TellsBody fields body)
no_body fields e body x =
    absurd (both (body_length fields) e
    (read_by (values_named (codes "content-length") fields) (values_named (codes "transfer-encoding") fields) body x))
  where
    both : (y : Option BodyLength) → y ≡ None → y ≡ Some body → ⊥
    both y a b = absurd (cc)

-- and the other way round
pub body_missing : (fields : List Header) → ((body : BodyLength) → ¬ (TellsBody fields body))
    → body_length fields ≡ None
body_missing fields h = by (body_length fields) refl
  where
    by : (x : Option BodyLength) → body_length fields ≡ x → x ≡ None
    by None e = refl
    by (Some body) e =
        absurd (h body (told_by (values_named (codes "content-length") fields)
        (values_named (codes "transfer-encoding") fields) body e))
